-- What stands at a sequence of an instance's own, for a variable of its own: kept, or rewritten to one instruction.
use Rattle.std.proofs.Common.{◌≡◌, ◌+◌, ◌≤◌, ℕ, [], ◌∷◌, inl, inr}
use Rattle.amd64_subset.specs.declared.instr.Decoded.{Decoded}
use Rattle.loaded_modules.specs.declared.instance.Instance.{Instance}
use Rattle.module_table.specs.Past.{startup_count}
use Rattle.relax_sites.specs.declared.choices.Choice.{Choice}
use Rattle.relax_sites.specs.Rows.{form_length}
use Rattle.sequence_laws.specs.Instructions.{new_instructions}
use Rattle.thread_blocks.specs.Instances.{Loads}
use Rattle.tied_meaning.specs.Numbers.{Setting}
use Rattle.tied_meaning.specs.Sites.{AsksForOwnBlock, HasInstruction, KeptAs, Stands, WrittenAs}
use Rattle.whole_meaning.specs.declared.sequences.Sequence.{Sequence}

module _ (g : Setting) (q : Loads ℕ) (x : Instance) (place : ℕ) (s : Sequence) where
  module _ (base : AsksForOwnBlock g q x place s s.form) (own : s.instance ≡ x.number) where
    module _ (ends : s.next ≡ place + form_length s.form) (target : s.target ≡ x.number) where
      pub kept : KeptAs g q x place s s.form → Stands g q x place s
      kept is = record { base = base; own = own; ends = ends; asked = inl target; stands = inl is }

      pub written : (choice : Choice) (reg number : ℕ) (d : Decoded)
          → new_instructions s.form choice reg number ≡ d ∷ [] → HasInstruction q x place d → x.number ≡ 1
          → s.target ≤ startup_count q.infos → WrittenAs g q x place s s.form choice reg number → Stands g q x place s
      written choice reg number d one there program early is = record {
        base = base;
        own = own;
        ends = ends;
        asked = inl target;
        stands = inr (
          choice,
          (reg, (number, (record { code = rw one (there, tt); program = program; early = early }, is))),
        );
      }
