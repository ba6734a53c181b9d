-- The rules of the file as a whole: its length, its identification, where its segments lie.
use Rattle.std.proofs.Common.{◌≡◌, ◌<◌, ◌≤◌, ℕ, List, length, refl, sym, subst, arith}
use Rattle.elf_records.specs.declared.file_header.Header.{Header}
use Rattle.image_rules.specs.declared.rule.Rule.TheVariants.{Length, Ident, Extent, Segment}
use Rattle.image_faults.specs.Parts.{header}
use Rattle.image_faults.specs.Fields.{IsWrongIdent}
use Rattle.image_faults.specs.Segments.{PassesEnd, IsWrongSegment}
use Rattle.image_faults.specs.Faults.{Breaks, KeepsBelow, IsFirst}
use Rattle.image_faults.proofs.Order.{none_at_first, kept_more}

-- a file shorter than its header
pub first_length : (b : List ℕ) → length b < 64 → IsFirst b Length 0
unfolding Breaks
first_length b short = record {
  here = (refl, short);
  nowhere_earlier = λ f h w. absurd (omega arith);
  earlier_rules = none_at_first b;
}

pub kept_length : (b : List ℕ) → 64 ≤ length b → KeepsBelow 1 b
unfolding Breaks
kept_length b long = kept_more Length b (none_at_first b) (λ e w. omega (arith, w.1))

-- the first byte of the identification that differs
pub first_ident : (b : List ℕ) (h : Header) (e : ℕ) → 64 ≤ length b → h ≡ header b → IsWrongIdent h e
    → ((f : ℕ) → f < e → IsWrongIdent h f → ⊥) → IsFirst b Ident e
unfolding Breaks
first_ident b h e long same here none = record {
  here = let P : Header → Type 0 = λ x. IsWrongIdent x e in subst P same here;
  nowhere_earlier = λ f lt w. let P : Header → Type 0 = λ x. IsWrongIdent x f in none f lt (subst P (sym same) w);
  earlier_rules = kept_length b long;
}

pub kept_ident : (b : List ℕ) (h : Header) → 64 ≤ length b → h ≡ header b → ((e : ℕ) → IsWrongIdent h e → ⊥)
    → KeepsBelow 2 b
unfolding Breaks
kept_ident b h long same none =
    kept_more Ident b (kept_length b long)
    (λ e w. let P : Header → Type 0 = λ x. IsWrongIdent x e in none e (subst P (sym same) w))

-- segments that pass the end of the file
pub first_extent : (b : List ℕ) → KeepsBelow 8 b → PassesEnd b → IsFirst b Extent 0
unfolding Breaks
first_extent b below past = record {
  here = (refl, past);
  nowhere_earlier = λ f h w. absurd (omega arith);
  earlier_rules = below;
}

pub kept_extent : (b : List ℕ) → KeepsBelow 8 b → (PassesEnd b → ⊥) → KeepsBelow 9 b
unfolding Breaks
kept_extent b below inside = kept_more Extent b below (λ e w. inside w.1)

-- the first program header that is not as it should be
pub first_segment : (b : List ℕ) (e : ℕ) → KeepsBelow 9 b → IsWrongSegment b e
    → ((f : ℕ) → f < e → IsWrongSegment b f → ⊥) → IsFirst b Segment e
unfolding Breaks
first_segment b e below here none = record {
  here = here;
  nowhere_earlier = none;
  earlier_rules = below;
}

pub kept_segments : (b : List ℕ) → KeepsBelow 9 b → ((e : ℕ) → IsWrongSegment b e → ⊥) → KeepsBelow 10 b
unfolding Breaks
kept_segments b below none = kept_more Segment b below none
