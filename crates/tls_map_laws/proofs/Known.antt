-- What is known of the instances in a history: all that the laws of the map need.
use Rattle.std.proofs.Common.{◌≡◌, ◌∙◌, ◌⊎◌, ◌+◌, ◌++◌, ◌<◌, ◌≤◌, ◌^◌, ℕ, true, false, List, [], ◌∷◌, length, None}
use Rattle.std.proofs.Common.{Some, refl, ap}
use Rattle.std.specs.Prelude.{IfSome, slice_get, unwrap_or}
use Rattle.address_map.specs.Map.{stack_start}
use Rattle.guest_machine.specs.Ranges.{Range, byte_in}
use Rattle.guest_operands.specs.declared.space.Access.{Access}
use Rattle.loaded_modules.specs.declared.instance.Instance.{Instance}
use Rattle.module_table.specs.declared.events.Event.{Event}
use Rattle.thread_blocks.specs.Instances.{Loads, block_start, instance_at, instances}
use Rattle.thread_blocks.specs.Turns.{IsFront}
use Rattle.tls_map_laws.specs.Acts.{is_in}
use Rattle.tls_map_laws.proofs.Entries.{Distinct}
use Rattle.tls_map_laws.proofs.Places.{Member}

pub front_then : {E : Type 0} (a b c : List E) → IsFront a b → IsFront b c → IsFront a c
front_then a b c f g = (f.0 ++ g.0, g.1 ∙ (ap (λ xs. xs ++ g.0) f.1 ∙ joined a f.0 g.0))
  where
    joined : {E : Type 0} (xs ys zs : List E) → (xs ++ ys) ++ zs ≡ xs ++ (ys ++ zs)
    joined [] ys zs = refl
    joined (x ∷ xs) ys zs = ap (λ more. x ∷ more) (joined xs ys zs)

-- instances have numbers of their own, and one that was closed is never live again
pub record NeverAgain {B : Type 0} (l : Loads B) (history : List Event) : Type 0 where
  pub own : (seen : List Event) → IsFront seen history → Distinct (instances l seen)
  pub one : (a b : List Event) → IsFront a history → IsFront b history → (x y : Instance) → Member x (instances l a)
      → Member y (instances l b) → y.number ≡ x.number → y ≡ x
  pub stays : (a b c : List Event) → IsFront a b → IsFront b c → IsFront c history → (x : Instance)
      → Member x (instances l a) → Member x (instances l c) → Member x (instances l b)

-- below the addresses of any thread
abbrev pub IsLow : {B : Type 0} → Range B → Type 0
IsLow range = (range.start < 2 ^ 39) × (length range.bytes < 2 ^ 39)

-- of the instances that are live at some time
pub record Known {B : Type 0} (l : Loads B) (thread : ℕ) (history : List Event) : Type 0 where
  pub again : NeverAgain l history
  -- their blocks lie below the thread's stack
  pub below : (seen : List Event) → IsFront seen history → (x : Instance) → Member x (instances l seen) → (place : ℕ)
      → is_in l thread x place ≡ true → place < stack_start thread
  -- the live instance of an image is among the live ones
  pub at : (seen : List Event) (image : ℕ) (x : Instance) → instance_at l seen image ≡ Some x
      → Member x (instances l seen)
  -- no two have a place in common, even if one is closed when the other is opened
  pub apart : (a b : List Event) → IsFront a history → IsFront b history → (x z : Instance) → Member x (instances l a)
      → Member z (instances l b) → (place : ℕ) → is_in l thread x place ≡ true
      → (z ≡ x) ⊎ (is_in l thread z place ≡ false)
  -- data lie low
  pub low : (seen : List Event) → IsFront seen history → (x : Instance) → Member x (instances l seen)
      → IfSome (l.shared x) IsLow

-- of their blocks. initial: the initial image as it is loaded for an instance; fixed: what no thread writes, after some
-- events
pub record Around {B : Type 0} (l : Loads B) (thread : ℕ) (fixed : List Event → List (Range B))
    (initial : Instance → List B) (zero_byte : B) (history : List Event) : Type 0 where
  -- a fresh block is the initial image and zeros
  pub fresh : (seen : List Event) → IsFront seen history → (x : Instance) → Member x (instances l seen) → (k : ℕ)
      → k < length (l.block x)
      → slice_get (l.block x) k ≡ Some (unwrap_or (slice_get (initial x) k) zero_byte)
  -- it lies above all instances of images
  pub high : (seen : List Event) → IsFront seen history → (x : Instance) → Member x (instances l seen)
      → 2 ^ 40 ≤ block_start thread x
  -- and nothing else lies there
  pub alone : (a b : List Event) → IsFront a history → IsFront b history → (x : Instance) → Member x (instances l a)
      → (how : Access) (k : ℕ) → k < length (l.block x)
      → byte_in how (fixed b) (block_start thread x + k) ≡ None

-- what is known of a history is known of each of its fronts
pub known_front : {B : Type 0} (l : Loads B) (thread : ℕ) (shorter history : List Event) → IsFront shorter history
    → Known l thread history → Known l thread shorter
known_front l thread shorter history to known =
    let up : (seen : List Event) → IsFront seen shorter → IsFront seen history = λ seen f.
    front_then seen shorter history f to in
    record {
      again = record {
        own = λ seen f. known.again.own seen (up seen f);
        one = λ a b f g x y m n e. known.again.one a b (up a f) (up b g) x y m n e;
        stays = λ a b c f g h x m n. known.again.stays a b c f g (up c h) x m n;
      };
      below = λ seen f x m place is. known.below seen (up seen f) x m place is;
      at = λ seen image x e. known.at seen image x e;
      apart = λ a b f g x z m n place is. known.apart a b (up a f) (up b g) x z m n place is;
      low = λ seen f x m. known.low seen (up seen f) x m;
    }
