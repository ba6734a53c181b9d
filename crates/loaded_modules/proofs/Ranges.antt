-- Where the parts of an image lie.
use Rattle.std.proofs.Common.{◌≡◌, ◌∙◌, ◌≢◌, ◌+◌, ◌-◌, ◌*◌, ◌^◌, ◌<◌, ◌≤◌, ◌⊎◌, ◌==◌, drop, ℕ, Bool, true, false, cond}
use Rattle.std.proofs.Common.{List, Some, length, sym, ap, subst, inl, inr, refl, arith}
use Rattle.std.specs.List.{slice_get}
use Rattle.std.proofs.lemmas.Bool.{cases_lt, eqb-true}
use Rattle.std.proofs.lemmas.List.{length-take}
use Rattle.std.proofs.lemmas.Option.{slice_get_within}
use Rattle.image_rules.specs.declared.places.FileKind.{FileKind}
use Rattle.image_rules.specs.declared.places.FileKind.TheVariants.{Exe, Pie, Module}
use Rattle.image_rules.specs.declared.rule.Rule.TheVariants.{Segment as SegmentRule}
use Rattle.elf_records.specs.declared.file_header.TheConstants.{ET_DYN, ET_EXEC}
use Rattle.elf_records.specs.declared.dynamic.TheConstants.{DT_FLAGS_1}
use Rattle.image_faults.specs.Array.{flags_entry, has_tag}
use Rattle.image_faults.specs.Faults.{Breaks, IsImage}
use Rattle.image_faults.specs.Parts.{base, header, loads, segment}
use Rattle.image_faults.specs.Places.{file_kind}
use Rattle.image_faults.specs.Segments.{IsRightLoad}
use Rattle.image_file.specs.Spelled.{Part, Spelled, part, spelled}
use Rattle.image_file.specs.Tabled.{length-tabled, tabled_at}
use Rattle.loaded_modules.specs.Laws.{InstancesApart, LieApart}
use Rattle.loaded_modules.specs.Loader.{bias}
use Rattle.loaded_modules.proofs.TlsKept.{at_most as not_past}

-- the address at which a moved image begins, and any
abbrev begins : Bool → ℕ
begins t = cond t 0x400000 0

base_by : (t u : Bool) (k : Bool) → (t ≡ true → u ≡ true → ⊥) → (cond u (cond k Pie Module) Exe ≢ Exe) → begins t ≡ 0
base_by true true k both moved = absurd (both refl refl)
base_by true false k both moved = absurd (moved refl)
base_by false u k both moved = refl

base_low : (t : Bool) → begins t ≤ 0x400000
base_low true = omega arith
base_low false = omega arith

module _ (b : List ℕ) (image : IsImage b) where
  apart_types : ((header b).e_type == ET_EXEC) ≡ true → ((header b).e_type == ET_DYN) ≡ true → ⊥
  apart_types one two = omega (arith, eqb-true (header b).e_type ET_EXEC one, eqb-true (header b).e_type ET_DYN two)

  base_moved : file_kind b ≢ Exe → base b ≡ 0
  base_moved = base_by ((header b).e_type == ET_EXEC) ((header b).e_type == ET_DYN)
      (has_tag b (flags_entry b) DT_FLAGS_1) apart_types

  in_range : (i : ℕ) → i < loads b → (segment b i).vaddr + (segment b i).filesz ≤ base b + 2 ^ 26
  unfolding Breaks
  in_range i lt = not_past ((segment b i).vaddr + (segment b i).filesz) (base b + 2 ^ 26)
      (λ unsaid. image SegmentRule i (inl (lt, λ right. unsaid (fits right))))
    where
      fits : IsRightLoad b i → (segment b i).vaddr + (segment b i).filesz ≤ base b + 2 ^ 26
      fits right = omega (arith, right.2.0, right.3.1)

  part_at : (i : ℕ) (p : Part) → slice_get (spelled b).parts i ≡ Some p → p.address + length p.bytes ≤ base b + 2 ^ 26
  unfolding part
  part_at i p is =
      let within : i < loads b = let lt = slice_get_within (spelled b).parts i p is in
      let long = length-tabled (part b) (loads b) in omega (arith, lt, long) in
      let same = some_is (part b i) p (sym (tabled_at (part b) (loads b) i within) ∙ is) in
      subst (λ (q : Part). q.address + length q.bytes ≤ base b + 2 ^ 26) same (omega (arith, in_range i within, short))
    where
      some_is : (x y : Part) → Some x ≡ Some y → x ≡ y
      some_is x y e = cc

      short : length (part b i).bytes ≤ (segment b i).filesz
      short = omega (
        arith,
        length-take ((segment b i).offset + (segment b i).filesz - (segment b i).offset)
            (drop (segment b i).offset b),
      )

-- a part ends below 2^32, and that of a moved image in the first 2^26 bytes
pub part_low : (image : Spelled) → (b : List ℕ) × (IsImage b × (image ≡ spelled b)) → (i : ℕ) (p : Part)
    → slice_get image.parts i ≡ Some p
    → (p.address + length p.bytes ≤ 2 ^ 32) × (image.kind ≢ Exe → p.address + length p.bytes ≤ 2 ^ 26)
part_low image (b, (is, spells)) i p at =
    let own : p.address + length p.bytes ≤ base b + 2 ^ 26 =
    part_at b is i p (ap (λ (s : Spelled). slice_get s.parts i) (sym spells) ∙ at) in
    let low = base_low ((header b).e_type == ET_EXEC) in (
      omega (arith, own, low),
      λ moved. let none =
          base_moved b is (λ e. moved (ap (λ (s : Spelled). s.kind) spells ∙ e)) in omega (arith, own, none),
    )

-- how far each is moved
bias_of_moved : (kind : FileKind) (n : ℕ) → kind ≢ Exe → bias kind n ≡ 2 ^ 32 + n * 2 ^ 26
unfolding bias
bias_of_moved Exe n moved = absurd (moved refl)
bias_of_moved Pie n moved = refl
bias_of_moved Module n moved = refl

exe_or_not : (kind : FileKind) → (kind ≡ Exe) ⊎ (kind ≢ Exe)
exe_or_not Exe = inl refl
exe_or_not Pie = inr (λ e. cc e)
exe_or_not Module = inr (λ e. cc e)

bias_exe : (kind : FileKind) (n : ℕ) → kind ≡ Exe → bias kind n ≡ 0
unfolding bias
bias_exe Exe n is = refl
bias_exe Pie n is = absurd (cc is)
bias_exe Module n is = absurd (cc is)

module _ (k l : FileKind) (a b : ℕ) (p q : Part) (other : a ≢ b) (low_p : p.address + length p.bytes ≤ 2 ^ 32)
    (moved_p : k ≢ Exe → p.address + length p.bytes ≤ 2 ^ 26)
    (low_q : q.address + length q.bytes ≤ 2 ^ 32) (moved_q : l ≢ Exe → q.address + length q.bytes ≤ 2 ^ 26) where
  both_moved : k ≢ Exe → l ≢ Exe → LieApart k a p l b q
  both_moved mk ml =
      let up_p = bias_of_moved k a mk in
      let up_q = bias_of_moved l b ml in
      let in_p = moved_p mk in
      let in_q = moved_q ml in
      elim (cases_lt a b) [
        | inl below ↦ inl (omega (arith, up_p, up_q, in_p, in_q, below))
        | inr above ↦ elim (cases_lt b a) [
          | inl behind ↦ inr (omega (arith, up_p, up_q, in_p, in_q, behind))
          | inr same ↦ absurd (other (omega (arith, above, same)))
        ]
      ]

  pub lie_apart : (k ≢ Exe) ⊎ (l ≢ Exe) → LieApart k a p l b q
  lie_apart (inl mk) = elim (exe_or_not l) [
    | inl fixed ↦ inr (let up_p = bias_of_moved k a mk in let up_q = bias_exe l b fixed in
        omega (arith, up_p, up_q, low_q))
    | inr ml ↦ both_moved mk ml
  ]
  lie_apart (inr ml) = elim (exe_or_not k) [
    | inl fixed ↦ inl (let up_q = bias_of_moved l b ml in let up_p = bias_exe k a fixed in
        omega (arith, up_p, up_q, low_p))
    | inr mk ↦ both_moved mk ml
  ]

-- the law
pub instances_apart : (first second : Spelled) → (b : List ℕ) × (IsImage b × (first ≡ spelled b))
    → (b : List ℕ) × (IsImage b × (second ≡ spelled b)) → InstancesApart first second
instances_apart first second is_first is_second = λ a b i j p q other moved at_p at_q.
    let low_p = part_low first is_first i p at_p in
    let low_q = part_low second is_second j q at_q in
    lie_apart first.kind second.kind a b p q other low_p.0 low_p.1 low_q.0 low_q.1 moved
