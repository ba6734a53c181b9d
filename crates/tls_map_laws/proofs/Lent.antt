-- A thread that gets the shared data for its turn, and gives them back, keeps what the map says.
use Rattle.std.proofs.Common.{◌≡◌, ◌∙◌, ◌++◌, ℕ, List, [], ◌∷◌, refl, ap, inl, inr}
use Rattle.std.proofs.lemmas.Bool.{cases_Bool}
use Rattle.loaded_modules.specs.declared.instance.Instance.{Instance}
use Rattle.module_table.specs.declared.events.Event.{Event}
use Rattle.thread_blocks.specs.Held.{Held, Owned, owned_by, owners_of, ranges_in, with_owned}
use Rattle.thread_blocks.specs.Instances.{Loads, instances}
use Rattle.thread_blocks.specs.JobWorlds.{blocks_in}
use Rattle.tls_map_laws.specs.Map.{Act, has_storage}
use Rattle.tls_map_laws.proofs.Entries.{AreData, block_of, blocks}
use Rattle.tls_map_laws.proofs.Bytes.{bytes_after}
use Rattle.tls_map_laws.proofs.Known.{Known}
use Rattle.tls_map_laws.proofs.Keeping.{held_is}
use Rattle.tls_map_laws.proofs.Begins.{FitsBy}

module _ {B : Type 0} where
  joined : (xs ys zs : List (Owned B)) → (xs ++ ys) ++ zs ≡ xs ++ (ys ++ zs)
  joined [] ys zs = refl
  joined (x ∷ xs) ys zs = ap (λ (more : List (Owned B)). x ∷ more) (joined xs ys zs)

  both_data : (xs ys : List (Owned B)) → AreData xs → AreData ys → AreData (xs ++ ys)
  both_data [] ys f g = g
  both_data (x ∷ xs) ys f g = (f.0, both_data xs ys f.1 g)

  no_data : (xs : List (Owned B)) → AreData xs → blocks_in xs ≡ []
  no_data [] are = refl
  no_data (x ∷ xs) are = let f = are.0.kind in let rest = no_data xs are.1 in rw f rest

module _ {B : Type 0} (l : Loads B) (thread : ℕ) where
  all_blocks : (acts : List (Act B)) (ys : List Instance) (rest : List (Owned B)) → AreData rest
      → blocks_in (blocks l thread acts ys ++ rest) ≡ blocks l thread acts ys ++ []
  all_blocks acts [] rest are = no_data rest are
  all_blocks acts (y ∷ ys) rest are =
      let more = all_blocks acts ys rest are in
      elim (cases_Bool (has_storage y.number acts)) [
        | inl t ↦ rw t (ap (λ (xs : List (Owned B)). block_of l thread y (bytes_after y.number (l.block y) acts)
            ∷ xs) more)
        | inr f ↦ rw f more
      ]

module _ {W F B : Type 0} (l : Loads B) (thread : ℕ) (history : List Event) (known : Known l thread history) where
  -- the law: with data behind what it holds
  pub lent_fits : (acts : List (Act B)) (h : Held W F B) (xs : List (Owned B)) → AreData xs
      → FitsBy l thread history known acts h → FitsBy l thread history known acts (with_owned h (owned_by h ++ xs))
  lent_fits acts h xs are fits =
      let live = instances l h.after.memory.seen in
      let held = held_is l thread history known acts h.after.memory.seen h.owners h.after.memory.own fits in
      let all = ap (λ (os : List (Owned B)). os ++ xs) held ∙ joined (blocks l thread acts live) fits.rest xs in
      record {
        rest = fits.rest ++ xs;
        data_behind = both_data fits.rest xs fits.data_behind are;
        owners = ap (λ (os : List (Owned B)). owners_of os) all;
        ranges = ap (λ (os : List (Owned B)). ranges_in os) all;
        front = fits.front;
        live = fits.live;
        untouched = fits.untouched;
      }

  -- the law: and without
  pub taken_fits : (acts : List (Act B)) (h : Held W F B) → FitsBy l thread history known acts h
      → FitsBy l thread history known acts (with_owned h (blocks_in (owned_by h)))
  taken_fits acts h fits =
      let live = instances l h.after.memory.seen in
      let held = held_is l thread history known acts h.after.memory.seen h.owners h.after.memory.own fits in
      let all = ap (λ (os : List (Owned B)). blocks_in os) held
      ∙ all_blocks l thread acts live fits.rest fits.data_behind in
      record {
        rest = [];
        data_behind = tt;
        owners = ap (λ (os : List (Owned B)). owners_of os) all;
        ranges = ap (λ (os : List (Owned B)). ranges_in os) all;
        front = fits.front;
        live = fits.live;
        untouched = fits.untouched;
      }
