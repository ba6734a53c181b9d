-- A memory that notes its stores keeps data as they were left.
use Rattle.std.proofs.Common.{◌≡◌, ◌++◌, ℕ, Bool, true, false, List, [], Result, Ok, Err, if◌then◌else◌, refl, sym}
use Rattle.std.proofs.Common.{subst}
use Rattle.guest_operands.specs.declared.space.Access.TheVariants.{Write}
use Rattle.guest_operands.specs.declared.stop.Stop.{Stop}
use Rattle.guest_machine.specs.Access.{Accesses}
use Rattle.guest_machine.specs.Ranges.{Range, grants, with_byte}
use Rattle.guest_machine.specs.Run.{Next, Goes, Ends, Looks}
use Rattle.guest_machine.specs.Use.{◌>>=◌, After}
use Rattle.thread_blocks.specs.Held.{Owned, Owner, owned}
use Rattle.thread_blocks.specs.Spaces.{Space, next_image, put_byte, stack_range}
use Rattle.thread_blocks.specs.SpaceLaws.{IsImage, after_of}
use Rattle.shared_data.specs.Changes.{Change, Noted, changed_by, noting, written_in}
use Rattle.shared_data.proofs.Last.{append_append, append_none}
use Rattle.shared_data.proofs.Left.{Apart, AreLeft, written_left}

-- a memory that holds data as they were left. Stands: what else holds of the events seen and the ranges
abbrev pub Keeps : {E B : Type 0} → (List E → List (Owned B) → Type 0) → List (Change B) → List Owner → Space E B
    → Type 0
Keeps Stands log os space =
    Apart os × (AreLeft log (owned os space.own) × Stands space.seen (owned os space.own))

-- no store changes that
abbrev pub StoresKeep : {E B : Type 0} → (List E → List (Owned B) → Type 0) → Type 0
StoresKeep {E} {B} Stands = (seen : List E) (os : List Owner) (own : List (Range B)) (place : ℕ) (byte : B)
    → Stands seen (owned os own) → Stands seen (owned os (with_byte own place byte))

module _ {E B : Type 0} (Stands : List E → List (Owned B) → Type 0) where
  -- so does what was made, if it was
  abbrev pub ResultKeeps : {W F : Type 0} → List (Change B) → List Owner → Result (After W F (Space E B)) Stop → Type 0
  ResultKeeps log os (Ok at) = Keeps Stands log os at.memory
  ResultKeeps log os (Err stop) = Unit {0}

  pub then_keeps : {W F A : Type 0} (log : List (Change B)) (os : List Owner) (r : Result A Stop)
      (f : A → Result (After W F (Space E B)) Stop) → ((a : A) → ResultKeeps log os (f a))
      → ResultKeeps log os (r >>= f)
  then_keeps log os (Ok a) f h = h a
  then_keeps log os (Err stop) f h = tt

module _ {E B : Type 0} (Stands : List E → List (Owned B) → Type 0) (stores : StoresKeep Stands) (stack : ℕ)
    (os : List Owner) (log : List (Change B)) where
  either_put : (g : Bool) (space : Space E B) (bytes : List B) (more changes : List (Change B)) (own : List (Range B))
      → Keeps Stands (log ++ more) os space → Keeps Stands (log ++ (more ++ changes)) os (record space { own = own })
      → Keeps Stands (log ++ (more ++ (if g then [] else changes))) os
      (if g then record space { stack = bytes } else record space { own = own })
  either_put true space bytes more changes own h k =
      subst (λ (cs : List (Change B)). Keeps Stands (log ++ cs) os space) (sym (append_none more)) h
  either_put false space bytes more changes own h k = k

  -- a store keeps what is noted
  pub put_keeps : (noted : Noted E B) (place : ℕ) (byte : B) → Keeps Stands (log ++ noted.changes) os noted.space
      → Keeps Stands (log ++ (noted.changes ++ changed_by stack os noted.space place byte)) os
      (put_byte stack noted.space place byte)
  put_keeps noted place byte keeps =
      let space = noted.space in
      either_put (grants Write (stack_range stack space.stack) place) space _ noted.changes
      (written_in (owned os space.own) place byte) (with_byte space.own place byte) keeps (
        keeps.0,
        (
          subst (λ (cs : List (Change B)). AreLeft cs (owned os (with_byte space.own place byte)))
              (append_append log noted.changes (written_in (owned os space.own) place byte))
              (written_left (log ++ noted.changes) os space.own place byte keeps.0 keeps.1.0),
          stores space.seen os space.own place byte keeps.1.1,
        ),
      )

module _ {E B : Type 0} (stack : ℕ) (os : List Owner) (acc : Accesses (Space E B) B) where
  pub noting_image : IsImage (noting stack os acc) acc (λ noted. noted.space)
  noting_image = record {
    byte = λ noted place. refl;
    writes = λ noted place. refl;
    put = λ noted place byte. refl;
    code = λ noted place. refl;
  }

  module _ (Stands : List E → List (Owned B) → Type 0) (stores : StoresKeep Stands) (log : List (Change B))
      (puts : (space : Space E B) (place : ℕ) (byte : B) → acc.put space place byte ≡ put_byte stack space place byte)
    where
      -- a noting memory with a proof that it keeps what it notes
      abbrev pub Proved : Type 0
      Proved = (noted : Noted E B) × Keeps Stands (log ++ noted.changes) os noted.space

      abbrev pub plain : Proved → Noted E B
      plain p = p.0

      pub put_proved : (p : Proved) (place : ℕ) (byte : B)
          → Keeps Stands (log ++ (p.0.changes ++ changed_by stack os p.0.space place byte)) os
          (acc.put p.0.space place byte)
      put_proved p place byte =
          subst (λ (space : Space E B). Keeps Stands
          (log ++ (p.0.changes ++ changed_by stack os p.0.space place byte)) os space)
          (sym (puts p.0.space place byte)) (put_keeps Stands stores stack os log p.0 place byte p.1)

      abbrev pub proved_accesses : Accesses Proved B
      proved_accesses = record {
        byte = λ p place. acc.byte p.0.space place;
        writes = λ p place. acc.writes p.0.space place;
        put = λ p place byte. (
          record {
            space = acc.put p.0.space place byte;
            changes = p.0.changes ++ changed_by stack os p.0.space place byte;
          },
          put_proved p place byte,
        );
        code = λ p place. acc.code p.0.space place;
      }

      pub proved_image : IsImage proved_accesses (noting stack os acc) plain
      proved_image = record {
        byte = λ p place. refl;
        writes = λ p place. refl;
        put = λ p place byte. refl;
        code = λ p place. refl;
      }

      -- what a step leaves
      abbrev pub NotedHolds : {W F : Type 0} → Next (After W F (Noted E B)) → Type 0
      NotedHolds (Goes at) = Keeps Stands (log ++ at.memory.changes) os at.memory.space
      NotedHolds (Ends stop) = Unit {0}
      NotedHolds (Looks at) = Keeps Stands (log ++ at.memory.changes) os at.memory.space

      pub noted_holds : {W F : Type 0} (next : Next (After W F Proved)) → NotedHolds (next_image (after_of plain) next)
      noted_holds (Goes at) = at.memory.1
      noted_holds (Ends stop) = tt
      noted_holds (Looks at) = at.memory.1
