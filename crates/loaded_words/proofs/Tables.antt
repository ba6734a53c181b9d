-- The table is among what the run time reads pairs and descriptors from.
use Rattle.std.proofs.Common.{◌≡◌, ◌∙◌, ◌+◌, ◌<◌, ◌≤◌, ◌||◌, ℕ, zero, suc, Bool, true, false, List, [], ◌∷◌, Some}
use Rattle.std.proofs.Common.{length}
use Rattle.std.proofs.Common.{refl, ap, arith, if◌then◌else◌}
use Rattle.std.specs.Prelude.{slice_get}
use Rattle.std.specs.List.{list_any}
use Rattle.std.proofs.lemmas.Bool.{le-leb}
use Rattle.std.proofs.lemmas.Option.{same_Some}
use Rattle.image_file.specs.Spelled.{Part, Spelled, is_writable}
use Rattle.link_core.proofs.Few.{table_fits}
use Rattle.link_core.proofs.LengthsRaw.{got_length}
use Rattle.link_core.proofs.StandingParts.{got_index, got_is_part, got_part}
use Rattle.link_core.specs.Images.{image_of}
use Rattle.link_needs.proofs.Reached.{entry_within}
use Rattle.link_needs.specs.Needs.{got_size, got_start}
use Rattle.loaded_modules.specs.declared.instance.Instance.{Instance}
use Rattle.loaded_modules.specs.Images.{JobImages}
use Rattle.loaded_modules.specs.Loader.{bias, part_bytes}
use Rattle.relocated_parts.proofs.Fold.{left_long}
use Rattle.thread_blocks.specs.JobLoads.{instance_part, job_loads, parts_from, written_from}
use Rattle.thread_blocks.specs.RunTime.{has_words}
use Rattle.whole_meaning.specs.Spots.{bias_of}
use Rattle.loaded_bytes.specs.Laws.{images_of}
use Rattle.loaded_bytes.proofs.Biases.{image_bias}
use Rattle.loaded_bytes.proofs.Still.{image_is}
use Rattle.loaded_words.specs.Laws.{TablesHold}
use Rattle.std.specs.Option.{option_map_or}

or_true : (a b : Bool) → b ≡ true → (a || b) ≡ true
or_true true b e = refl
or_true false b e = e

module _ (m : JobImages) (image : Spelled) (x : Instance) (address : ℕ) (part : Part) where
  -- a part that is written is among them
  among : (n number i : ℕ) (parts : List Part) → number ≡ n + i → slice_get parts i ≡ Some part
      → is_writable part.class ≡ true
      → has_words address (instance_part m image x number part) ≡ true
      → list_any (has_words address) (written_from parts (parts_from m image x n parts)) ≡ true
  among n number i [] e at written has = cc
  among n number zero (p ∷ parts) e at written has =
      let same : p ≡ part = same_Some p part at in
      let test : is_writable p.class ≡ true = ap (λ (q : Part). is_writable q.class) same ∙ written in
      rw test
      (ap (λ b. b || list_any (has_words address) (written_from parts (parts_from m image x (suc n) parts)))
      (ap (λ (q : Part). has_words address (instance_part m image x n q)) same ∙ has))
  among n number (suc i) (p ∷ parts) e at written has =
      of_test (is_writable p.class) (among (suc n) number i parts (omega (arith, e)) at written has)
    where
      of_test : (t : Bool) → list_any (has_words address) (written_from parts (parts_from m image x (suc n) parts))
          ≡ true
          → list_any (has_words address)
          (if t then instance_part m image x n p ∷ written_from parts (parts_from m image x (suc n) parts)
          else written_from parts (parts_from m image x (suc n) parts)) ≡ true
      of_test true rest = or_true (has_words address (instance_part m image x n p)) _ rest
      of_test false rest = rest

-- the law
pub tables_hold : TablesHold
unfolding job_loads
tables_hold ls l x need at is starts wide =
    let m = images_of ls in
    let inside = entry_within l need (record { at = at; starts = starts }) in
    let some : 0 < got_size l = omega (arith, inside, wide) in
    let long = got_length l in
    let part = got_is_part l some is.given (table_fits l is.given is.links.sound.limits) in
    let kept = left_long m (image_of l) x (got_part l) in
    let moved = image_bias l x.number in
    let begins : got_start l + bias (image_of l).kind x.number ≤ got_start l + at + bias_of l.kind x.number =
    omega (arith, moved) in
    let ends : got_start l + at + bias_of l.kind x.number + 16
    ≤ got_start l + bias (image_of l).kind x.number + length (part_bytes m (image_of l) x (got_part l)) =
    omega (arith, moved, kept, long, inside, wide) in
    ap (λ image. list_any (has_words (got_start l + at + bias_of l.kind x.number))
    (option_map_or (λ (own : Spelled). written_from own.parts (parts_from m own x 0 own.parts)) image []))
    (image_is ls l x is.image)
    ∙ among m (image_of l) x (got_start l + at + bias_of l.kind x.number) (got_part l) 0 (got_index l) (got_index l)
    (image_of l).parts (omega arith) part refl
    (rw (
      le-leb (got_start l + bias (image_of l).kind x.number) (got_start l + at + bias_of l.kind x.number) begins,
      le-leb (got_start l + at + bias_of l.kind x.number + 16)
          (got_start l + bias (image_of l).kind x.number + length (part_bytes m (image_of l) x (got_part l))) ends,
    ) refl)
