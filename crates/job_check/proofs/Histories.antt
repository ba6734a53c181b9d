-- Histories that are one event longer, and what every history keeps.
use Rattle.std.proofs.Common.{◌≡◌, ◌∙◌, ◌++◌, ◌≤◌, true, List, [], ◌∷◌, Option, Some, None, length, sym, ap, subst}
use Rattle.std.specs.Prelude.{option_to_list}
use Rattle.link_needs.specs.Linking.{Linking}
use Rattle.module_table.specs.declared.events.Event.{Event}
use Rattle.module_table.specs.Laws.{HaveOwnNumbers}
use Rattle.module_table.specs.Past.{Past, accepts, after, after_one}
use Rattle.module_table.proofs.Along.{past_legal}
use Rattle.module_table.proofs.HistoryLemmas.{legal_more, past_more}
use Rattle.module_table.proofs.LawsOfNumbers.{own_numbers}
use Rattle.thread_blocks.specs.Instances.{Loads, left_by}
use Rattle.thread_blocks.specs.Turns.{with_event}
use Rattle.job_check.specs.Histories.{IsLeftBy, infos_of, last_of}

-- an event that is accepted
pub left_more : (ls : List Linking) (p : Past) (e : Event) → IsLeftBy ls p → accepts p e ≡ true
    → IsLeftBy ls (after_one p e)
left_more ls p e left accepted = record {
  events = left.events ++ e ∷ [];
  legal = legal_more (infos_of ls) (last_of ls) left.events e left.legal
      (subst (λ q. accepts q e ≡ true) left.left accepted);
  left = ap (λ q. after_one q e) left.left ∙ sym (past_more (infos_of ls) (last_of ls) left.events e);
}

-- what is left with an event of the thread's own
pub left_with : {B : Type 0} (l : Loads B) (p p' : Past) (seen : List Event) (event : Option Event) → left_by l seen ≡ p
    → p' ≡ after p (option_to_list event) → left_by l (with_event seen event) ≡ p'
left_with l p p' seen None is then = is ∙ sym then
left_with l p p' seen (Some e) is then =
    past_more l.infos l.last_offset seen e ∙ ap (λ q. after_one q e) is ∙ sym then

pub few_modules : (ls : List Linking) (p : Past) → IsLeftBy ls p → length p.modules ≤ 65
few_modules ls p left =
    subst (λ (q : Past). length q.modules ≤ 65) (sym left.left)
    (past_legal (infos_of ls) (last_of ls) left.events left.legal).few

pub own_of : (ls : List Linking) (p : Past) → IsLeftBy ls p → HaveOwnNumbers p
own_of ls p left = subst HaveOwnNumbers (sym left.left) (own_numbers (infos_of ls) (last_of ls) left.events left.legal)
