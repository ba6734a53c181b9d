-- The sites of the program with local dynamic code and a descriptor, rewritten and kept.
use Rattle.std.proofs.Common.{◌≡◌, ℕ, Bool, true, false, Some, refl, subst}
use Rattle.thread_blocks.specs.Instances.{Loads}
use Rattle.tied_meaning.specs.Sites.{Stands}
use Rattle.whole_meaning.specs.declared.marks.Mark.TheVariants.{Offset}
use Rattle.whole_meaning.specs.Loads.{meaning_of}
use Rattle.whole_meaning.specs.Meanings.{Meaning}
use Rattle.closed_jobs.specs.Laws.{LocalCodeIsTied}
use Rattle.closed_jobs.specs.LocalCode.{links}
use Rattle.closed_jobs.specs.LocalSites.{AreTiedSites, app, setting, base, lea, call}
use Rattle.closed_jobs.proofs.LocalFields.{moves}
use Rattle.closed_jobs.proofs.LocalKept as kept
use Rattle.closed_jobs.proofs.LocalLoads.{loads_is, m, meaning_is, q}
use Rattle.closed_jobs.proofs.LocalRewritten as rewritten

-- ** what is meant

base_meant : (relax : Bool) → (m relax).sequence app 0x400000 ≡ Some base
unfolding m
base_meant true = refl
base_meant false = refl

lea_meant : (relax : Bool) → (m relax).sequence app 0x400013 ≡ Some lea
unfolding m
lea_meant true = refl
lea_meant false = refl

call_meant : (relax : Bool) → (m relax).sequence app 0x40001a ≡ Some call
unfolding m
call_meant true = refl
call_meant false = refl

field_meant : (relax : Bool) → (m relax).mark app 0x40000e ≡ Offset 4 0
unfolding m
field_meant true = refl
field_meant false = refl

-- ** what stands there

base_stands : (relax : Bool) → Stands (setting relax) (q relax) app 0x400000 base
base_stands true = rewritten.base_stands
base_stands false = kept.base_stands

lea_stands : (relax : Bool) → Stands (setting relax) (q relax) app 0x400013 lea
lea_stands true = rewritten.lea_stands
lea_stands false = kept.lea_stands

call_stands : (relax : Bool) → Stands (setting relax) (q relax) app 0x40001a call
call_stands true = rewritten.call_stands
call_stands false = kept.call_stands

-- ** all of them

impossible : false ≡ true → ⊥
impossible e = cc

pub ties : (relax : Bool) → AreTiedSites (setting relax) (m relax) (q relax)
ties relax = record {
  base = record { meant = base_meant relax; stands = base_stands relax };
  field = record { meant = field_meant relax; moves = moves relax };
  lea = record { meant = lea_meant relax; stands = lea_stands relax };
  other = impossible;
  call = record { meant = call_meant relax; stands = call_stands relax };
}

pub is_tied : LocalCodeIsTied
is_tied relax = subst (λ (q : Loads ℕ). AreTiedSites (setting relax) (meaning_of (links relax)) q) (loads_is relax)
    (subst (λ (m : Meaning). AreTiedSites (setting relax) m (q relax)) (meaning_is relax) (ties relax))
