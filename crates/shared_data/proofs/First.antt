-- What a job begins with: blocks in its threads' hands, and data as the loader fills them.
use Rattle.std.proofs.Common.{◌≡◌, ◌∙◌, ◌++◌, ℕ, true, false, List, [], ◌∷◌, Option, Some, None, refl, sym, subst}
use Rattle.std.specs.Prelude.{is_some}
use Rattle.std.specs.List.{flat_map}
use Rattle.std.specs.Option.{option_or}
use Rattle.std.proofs.lemmas.Bool.{eq-eqb}
use Rattle.guest_machine.specs.Ranges.{Range}
use Rattle.loaded_modules.specs.declared.instance.Instance.{Instance}
use Rattle.module_table.specs.declared.events.Event.{Event}
use Rattle.thread_blocks.specs.Held.{Held, Owned, block_after, data_after, data_with, fresh_data, looked, looked_at}
use Rattle.thread_blocks.specs.Held.{owned_by}
use Rattle.thread_blocks.specs.Instances.{Loads, instances}
use Rattle.shared_data.specs.Changes.{Change, Filled, last_left}
use Rattle.shared_data.specs.Told.{filled, filled_with}
use Rattle.shared_data.proofs.Fits.{HasAll, HaveOwnNumbers, IsBlock, all_blocks, of_live}
use Rattle.shared_data.proofs.Held.{with_owned_by}
use Rattle.shared_data.proofs.Last.{filled_other, filled_there, last_reached, last_spared}
use Rattle.shared_data.proofs.Left.{AreLeft, Each, IsLeft, each_append}

module _ {B : Type 0} (l : Loads B) where
  -- ** data

  none_after : (n : ℕ) (xs : List Instance) → Each (λ (y : Instance). n ≡ y.number → ⊥) xs
      → (k : ℕ) → last_left n k (flat_map (filled l) xs) ≡ None
  none_after n [] others k = refl
  none_after n (x ∷ xs) others k =
      last_spared n k (filled l x) (flat_map (filled l) xs) (none_after n xs others.1 k) ∙ spares (l.shared x)
    where
      spares : (range : Option (Range B)) → last_left n k (filled_with x.number range) ≡ None
      spares None = refl
      spares (Some range) = filled_other x.number n k range.bytes (λ e. others.0 (sym e))

  behind_left : (first more : List (Change B)) (xs : List (Owned B)) → AreLeft more xs → AreLeft (first ++ more) xs
  behind_left first more [] left = tt
  behind_left first more (x ∷ xs) left = (
    (λ d k b e. last_reached x.owner.instance k first more b (left.0 d k b e)),
    behind_left first more xs left.1,
  )

  first_left : (x : Instance) (range : Option (Range B)) (more : List (Change B))
      → ((k : ℕ) → last_left x.number k more ≡ None)
      → AreLeft (filled_with x.number range ++ more) (data_with x range (option_or (fresh_data range true) None))
  first_left x None more none = tt
  first_left x (Some range) more none = (
    (λ d k b e. last_spared x.number k (Filled x.number range.bytes ∷ []) more (none k) ∙
        (filled_there x.number k range.bytes ∙ e)),
    tt,
  )

  pub data_first : (xs : List Instance) → HaveOwnNumbers xs
      → AreLeft (flat_map (filled l) xs) (flat_map (data_after l (λ x. true) []) xs)
  data_first [] own = tt
  data_first (x ∷ xs) own =
      each_append (IsLeft (filled l x ++ flat_map (filled l) xs)) (data_after l (λ y. true) [] x)
      (flat_map (data_after l (λ y. true) []) xs)
      (first_left x (l.shared x) (flat_map (filled l) xs) (none_after x.number xs own.0))
      (behind_left (filled l x) (flat_map (filled l) xs) (flat_map (data_after l (λ y. true) []) xs)
      (data_first xs own.1))

  -- all of them
  pub all_first : (live : List Instance) → HasAll l live (flat_map (data_after l (λ x. true) []) live)
  all_first live y is range e =
      let found = of_live y.number l (λ x. true) [] y range range.bytes e (rw e refl) live is
      (eq-eqb y.number y.number refl) in
      (range.bytes, (rw found refl, refl))

  -- ** blocks

  no_data : (x : Instance) (range : Option (Range B))
      → Each IsBlock (data_with x range (option_or (fresh_data range false) None))
  no_data x None = tt
  no_data x (Some range) = tt

  none_data : (xs : List Instance) → Each IsBlock (flat_map (data_after l (λ x. false) []) xs)
  none_data [] = tt
  none_data (x ∷ xs) = each_append IsBlock (data_after l (λ y. false) [] x) (flat_map (data_after l (λ y. false) []) xs)
      (no_data x (l.shared x)) (none_data xs)

-- who held nothing holds blocks after a look
pub look_blocks : {W F B : Type 0} (l : Loads B) (thread : ℕ) (seen : List Event) (h : Held W F B) → owned_by h ≡ []
    → Each IsBlock (owned_by (looked l thread seen h))
unfolding looked_at
look_blocks l thread seen h none =
    subst (Each IsBlock) (sym (with_owned_by h (looked_at l thread seen (owned_by h))))
    (subst (λ xs. Each IsBlock (looked_at l thread seen xs)) (sym none)
    (each_append IsBlock (flat_map (block_after l thread (λ x. is_some x.offset) []) (instances l seen))
    (flat_map (data_after l (λ x. false) []) (instances l seen))
    (all_blocks l thread (λ x. is_some x.offset) [] (instances l seen)) (none_data l (instances l seen))))
