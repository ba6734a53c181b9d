-- Instructions that are read from bytes stand where these bytes are run.
use Rattle.std.proofs.Common.{◌≡◌, ◌∙◌, ◌+◌, ◌<◌, ℕ, List, [], ◌∷◌, drop, sym, ap, arith}
use Rattle.std.specs.Prelude.{slice_get}
use Rattle.std.proofs.lemmas.List.Sums.{sum_by-cons}
use Rattle.amd64_subset.specs.declared.instr.Decoded.{Decoded}
use Rattle.guest_machine.specs.Ranges.{byte_in}
use Rattle.guest_operands.specs.declared.space.Access.TheVariants.{Run}
use Rattle.loaded_modules.specs.declared.instance.Instance.{Instance}
use Rattle.sequence_laws.specs.Laws.{AreRead, length_of}
use Rattle.thread_blocks.specs.Instances.{Loads}
use Rattle.tied_meaning.specs.Sites.{HasCode}
use Rattle.tls_relocs.specs.Elements.{slice_get-drop}

module _ (q : Loads ℕ) (x : Instance) where
  pub code_stands : (ds : List Decoded) (rest bytes : List ℕ) (place : ℕ) → AreRead ds rest bytes
      → ((k : ℕ) → k < length_of ds → byte_in Run (q.fixed x) (place + k) ≡ slice_get bytes k) → HasCode q x place ds
  code_stands [] rest bytes place read there = tt
  code_stands (d ∷ ds) rest bytes place read there =
      let long = sum_by-cons (λ (e : Decoded). e.len) d ds in (
        record { bytes = bytes; read = read.0; there = λ k less. there k (omega (arith, long, less)) },
        code_stands ds rest (drop d.len bytes) (place + d.len) read.1 (λ k less.
            let at : place + d.len + k ≡ place + (d.len + k) = omega arith in
            ap (byte_in Run (q.fixed x)) at ∙ there (d.len + k) (omega (arith, long, less))
            ∙ sym (slice_get-drop d.len k bytes)),
      )
