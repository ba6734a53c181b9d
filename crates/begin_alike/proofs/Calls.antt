-- A call begins alike on both sides: with the same arguments and a fresh stack, at the same place.
use Rattle.std.proofs.Common.{◌≡◌, ◌∙◌, ℕ, ◌+◌, ◌-◌, List, ◌++◌, All, length, replicate, Option, Some, None, refl, sym}
use Rattle.std.proofs.Common.{ap, subst, inr, arith}
use Rattle.std.proofs.lemmas.List.{length-append, length-replicate}
use Rattle.address_map.specs.Map.{return_place, stack_size}
use Rattle.guest_arithmetic.specs.Plain.{plain_operations}
use Rattle.job_meaning.specs.declared.values.Byte.{Byte}
use Rattle.job_meaning.specs.declared.values.Byte.TheVariants.{Value}
use Rattle.job_meaning.specs.Marked.{marked_operations}
use Rattle.loaded_modules.specs.declared.instance.Instance.{Instance}
use Rattle.module_table.specs.declared.events.Event.{Event}
use Rattle.thread_blocks.specs.Held.{Owner, owned}
use Rattle.thread_blocks.specs.Instances.{Loads}
use Rattle.thread_blocks.specs.Lines.{begun_at, begun_in}
use Rattle.thread_blocks.specs.MachineTurns.{fresh_stack, word_bytes, zeros}
use Rattle.thread_blocks.specs.RunTime.{Runs}
use Rattle.thread_blocks.specs.Turns.{Begun, Ending}
use Rattle.thread_blocks.proofs.Begin.{call_start_alike, stack_alike}
use Rattle.whole_meaning.specs.Meanings.{Meaning}
use Rattle.whole_meaning.specs.Threads.{Meant, ops}
use Rattle.tied_meaning.specs.Numbers.{Setting, alike}
use Rattle.tied_meaning.specs.Ties.{AreTied}
use Rattle.tied_meaning.specs.Threads.{AtRest, IsPlaced}
use Rattle.tied_meaning.proofs.Values.{values_follow}
use Rattle.begin_alike.specs.Begun.{BegunAlike}

-- ** a fresh stack is as deep as any

behind_zeros : (n : ℕ) (xs : List Byte) → length (zeros (Value 0) n ++ xs) ≡ n + length xs
unfolding zeros
behind_zeros n xs =
    length-append (replicate n (Value 0)) xs ∙ ap (λ (k : ℕ). k + length xs) (length-replicate n (Value 0))

is_deep : length (fresh_stack ops) ≡ stack_size
unfolding marked_operations
is_deep = behind_zeros (stack_size - 8) (word_bytes ops return_place)

zero_byte : (g : Setting) → (alike g).byte (ops.byte 0) (plain_operations.byte 0)
unfolding alike marked_operations plain_operations
zero_byte g = (refl, omega arith)

-- ** a call

-- show, show': what is said of bytes, of which a call says nothing
module _ (g : Setting) (m : Meaning) (q : Loads ℕ) (history : List Event) (thread : ℕ) (tied : AreTied g m q history)
    (show : List Byte → Ending) (show' : List ℕ → Ending) (symbol : List ℕ) (a b c : ℕ) (seen : List Event) (h : Meant)
    (h' : Runs) (r : AtRest g m q history thread h h') where
  abbrev Begins : Begun Meant → Begun Runs → Type 0
  Begins = BegunAlike g m q history thread seen

  -- of a function that begins here, if there is one
  at_alike : (place : Option ℕ) → Begins (begun_at ops m.loads show thread symbol a b c h place)
      (begun_at plain_operations q show' thread symbol a b c h' place)
  unfolding alike
  at_alike None = inr (refl, r)
  at_alike (Some place) = record {
    state = call_start_alike (alike g) ops plain_operations (values_follow g) (zero_byte g) thread place a b c;
    pointer = refl;
    memory = record {
      space = record {
        seen = r.seen;
        stack = stack_alike (alike g) ops plain_operations (values_follow g) (zero_byte g);
        own = r.own;
      };
      events = refl;
      placed =
          subst (λ (os : List Owner). All (IsPlaced g q thread) (owned os h'.after.memory.own)) r.owners r.placed;
      paired = ap length (sym r.owners) ∙ r.paired;
      deep = is_deep;
    };
    owners = r.owners;
    front = r.front;
    asked = r.asked;
  }

  -- of an instance, if the image has one
  pub in_alike : (o : Option Instance) → ((x : Instance) → o ≡ Some x → q.function x symbol ≡ m.loads.function x symbol)
      → Begins (begun_in ops m.loads show thread symbol a b c h o)
      (begun_in plain_operations q show' thread symbol a b c h' o)
  in_alike None same = inr (refl, r)
  in_alike (Some x) same =
      subst (λ (place : Option ℕ). Begins (begun_at ops m.loads show thread symbol a b c h (m.loads.function x symbol))
      (begun_at plain_operations q show' thread symbol a b c h' place)) (sym (same x refl))
      (at_alike (m.loads.function x symbol))
