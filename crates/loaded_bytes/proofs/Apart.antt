-- Two instances lie apart, since each has 2^26 addresses of its own.
use Rattle.std.proofs.Common.{◌≡◌, ◌≢◌, ◌+◌, ◌<◌, ◌≤◌, ◌⊎◌, ◌^◌, ℕ, true, List, Option, inl, inr, subst, arith}
use Rattle.std.specs.Prelude.{IfSome}
use Rattle.guest_operands.specs.Ranges.{Range}
use Rattle.link_faults.specs.declared.image_kind.ImageKind.{ImageKind}
use Rattle.link_faults.specs.declared.image_kind.ImageKind.TheVariants.{Exe, Pie, Start, Late}
use Rattle.link_faults.specs.ImageKinds.{base_of, is_moved}
use Rattle.link_needs.specs.Linking.{Linking}
use Rattle.loaded_modules.specs.declared.instance.Instance.{Instance}
use Rattle.thread_blocks.specs.JobLoads.{job_loads}
use Rattle.whole_meaning.specs.Spots.{bias_of}
use Rattle.loaded_bytes.specs.Apart.{InstancesLieApart, IsLoadedAt}
use Rattle.loaded_bytes.specs.Laws.{IsInstanceOf, images_of}
use Rattle.loaded_bytes.specs.Places.{IsApart, IsOwn}
use Rattle.loaded_bytes.proofs.Places.{places_own}

own_of : (ls : List Linking) (l : Linking) (x : Instance) (place : ℕ) → IsInstanceOf ls l x → IsLoadedAt ls x place
    → IsOwn l (bias_of l.kind x.number) place
own_of ls l x place is (inl found) = (places_own ls l x is).fixed found.0 place found.1 found.2
own_of ls l x place is (inr held) =
    let apart : IsApart l (bias_of l.kind x.number) ((job_loads (images_of ls)).fixed x) held.0 =
    subst (λ (o : Option (Range ℕ)). IfSome o
    (IsApart l (bias_of l.kind x.number) ((job_loads (images_of ls)).fixed x))) held.1
    (places_own ls l x is).shared in
    apart.own place held.2

far : (k c : ImageKind) (a b place : ℕ) → a ≢ b → (is_moved k ≡ true) ⊎ (is_moved c ≡ true)
    → base_of k + bias_of k a ≤ place → place < base_of k + 2 ^ 26 + bias_of k a
    → base_of c + bias_of c b ≤ place → place < base_of c + 2 ^ 26 + bias_of c b → ⊥
far Exe Exe a b place other (inl e) low high low' high' = cc
far Exe Exe a b place other (inr e) low high low' high' = cc
far Exe Pie a b place other e low high low' high' = omega arith
far Exe Start a b place other e low high low' high' = omega arith
far Exe Late a b place other e low high low' high' = omega arith
far Pie Exe a b place other e low high low' high' = omega arith
far Start Exe a b place other e low high low' high' = omega arith
far Late Exe a b place other e low high low' high' = omega arith
far Pie Pie a b place other e low high low' high' = omega arith
far Pie Start a b place other e low high low' high' = omega arith
far Pie Late a b place other e low high low' high' = omega arith
far Start Pie a b place other e low high low' high' = omega arith
far Start Start a b place other e low high low' high' = omega arith
far Start Late a b place other e low high low' high' = omega arith
far Late Pie a b place other e low high low' high' = omega arith
far Late Start a b place other e low high low' high' = omega arith
far Late Late a b place other e low high low' high' = omega arith

-- the law
pub lie_apart : InstancesLieApart
lie_apart ls l m x y place is also other moved here there =
    let first = own_of ls l x place is here in
    let second = own_of ls m y place also there in
    far l.kind m.kind x.number y.number place other moved first.0 first.1 second.0 second.1
