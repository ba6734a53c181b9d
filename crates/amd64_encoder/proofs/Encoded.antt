-- What a canonical spelling is to its reader.
use Rattle.std.proofs.Common.{◌≡◌, ℕ, ◌<◌, ◌≤◌, List, [], ◌++◌, length, take, drop, Some, refl, sym, ap, subst, ◌∙◌}
use Rattle.std.proofs.Common.{arith}
use Rattle.amd64_subset.specs.declared.instr.Instr.{Instr}
use Rattle.amd64_subset.specs.Decoding.{placed, decoded}
use Rattle.amd64_subset.specs.Spelling.{Spells, IsPlaced}
use Rattle.amd64_encoder.specs.Writing.{spelling_of, spliced}
use Rattle.amd64_encoder.specs.Canonical.{IsSpellable, IsCanonical, ReadsAs}
use Rattle.amd64_encoder.proofs.Canon.{canonical}
use Rattle.amd64_subset.proofs.Whole.{decoded_again}
use Rattle.amd64_subset.proofs.Places.{decoded_placed}
use Rattle.amd64_encoder.proofs.Splices.{take-spliced, drop-spliced}

-- a canonical spelling is one
spells_it : (instr : Instr) (bytes : List ℕ) (h : IsCanonical instr bytes) → Spells bytes (placed (length bytes) h.body)
spells_it instr bytes h = record { body = h.body; short = h.short; parts = h.parts; decoded-is = refl }

reads_it : (instr : Instr) (bytes tail : List ℕ) (h : IsCanonical instr bytes)
    → decoded (bytes ++ tail) ≡ Some (placed (length bytes) h.body)
reads_it instr bytes tail h = decoded_again bytes (placed (length bytes) h.body) tail (spells_it instr bytes h)

pub reads_as : (instr : Instr) (bytes : List ℕ) (len : ℕ) → IsCanonical instr bytes → len ≡ length bytes
    → ReadsAs instr len bytes
reads_as instr bytes len h same tail = rw (reads_it instr bytes tail h) (h.instr-is, sym same)

-- it has bytes
pub some_bytes : (instr : Instr) (bytes : List ℕ) → IsCanonical instr bytes → 0 < length bytes
some_bytes instr bytes h = let p : IsPlaced (placed (length bytes) h.body) =
    decoded_placed (bytes ++ []) (Some (placed (length bytes) h.body)) (sym (reads_it instr bytes [] h)) in p.some

-- what stands there after it was written
pub record IsWritten (instr : Instr) (old new : List ℕ) (len : ℕ) : Type 0 where
  pub canonical : IsCanonical instr (take len new)
  pub again : ReadsAs instr len (take len new)
  pub some : 0 < len
  pub most : len ≤ 15
  pub kept : drop len new ≡ drop len old
  pub exact : take len new ≡ spelling_of instr

pub written : (instr : Instr) (old new : List ℕ) (len : ℕ) → IsSpellable instr → new ≡ spliced 0 (spelling_of instr) old
    → len ≡ length (spelling_of instr) → IsWritten instr old new len
written instr old new len ok is size =
    let bytes = spelling_of instr in
    let h = canonical instr ok in
    let front : take len new ≡ bytes = ap (λ n. take n new) size ∙ ap (λ t. take (length bytes) t) is
    ∙ take-spliced bytes old in
    let some = some_bytes instr bytes h in
    let most = h.short in
    record {
      canonical = subst (IsCanonical instr) (sym front) h;
      again = subst (ReadsAs instr len) (sym front) (reads_as instr bytes len h size);
      some = omega arith;
      most = omega arith;
      kept = ap (drop len) is ∙ drop-spliced 0 len bytes old (omega arith) (omega arith);
      exact = front;
    }
