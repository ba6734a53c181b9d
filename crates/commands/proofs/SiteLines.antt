-- The lines of sites, object by object.
use Rattle.std.proofs.Common.{◌≡◌, ◌∙◌, ◌+◌, ◌-◌, ◌<◌, ◌≤◌, ℕ, List, [], ◌++◌, length, refl, ap, arith}
use Rattle.std.specs.List.{flat_map, range_with_len}
use Rattle.relax_sites.specs.declared.choices.Choice.{Choice}
use Rattle.sequence_forms.specs.declared.places.Site.{Site}
use Rattle.site_text.specs.Lines.{site_lines}
use Rattle.elf_object.proofs.Ranges.{range_first, range_none}
use Rattle.commands.specs.Links.{lines_at, lines_of}

module _ (names objects : List (List ℕ)) (sites : List (List Site)) (choices : List (List Choice)) where
  -- those of the objects that are left
  abbrev pub left : ℕ → List ℕ
  left n = flat_map (lines_at names objects sites choices) (range_with_len n (length names - n))

  pub all_left : left 0 ≡ lines_of names objects sites choices
  unfolding lines_of
  all_left = let all : length names - 0 ≡ length names = omega arith in rw all refl

  pub one_less : (n : ℕ) → n < length names → left n ≡ lines_at names objects sites choices n ++ left (n + 1)
  one_less n h = rw (range_first n (length names) h) refl

  pub none_left : (n : ℕ) → length names ≤ n → left n ≡ []
  none_left n h = rw (range_none n (length names) h) refl

pub same_lines : (name name' b b' : List ℕ) (own own' : List Site) (chosen chosen' : List Choice) → name ≡ name'
    → b ≡ b' → own ≡ own' → chosen ≡ chosen'
    → site_lines name b own chosen ≡ site_lines name' b' own' chosen'
same_lines name name' b b' own own' chosen chosen' e f g h =
    ap (λ x. site_lines x b own chosen) e ∙ ap (λ x. site_lines name' x own chosen) f
    ∙ ap (λ x. site_lines name' b' x chosen) g ∙ ap (λ x. site_lines name' b' own' x) h
