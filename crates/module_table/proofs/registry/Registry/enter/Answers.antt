-- The history and one event that is accepted after it, and the tables of both.
use Rattle.std.specs.Prelude.{is_none}
use Rattle.std.proofs.Common.{◌≡◌, List, [], ◌∷◌, ◌++◌, length, true, ◌∙◌, subst, sym, ap, arith}
use Rattle.module_table.specs.declared.events.Event.{Event}
use Rattle.module_table.specs.Past.{Past, past, accepts, after_one}
use Rattle.module_table.specs.History.{History, left}
use Rattle.module_table.specs.Past.{IsLegal}
use Rattle.module_table.specs.Walks.{seen-past}
use Rattle.module_table.proofs.HistoryLemmas.{past_more, legal_more}
use Rattle.module_table.proofs.registry.Registry.enter.Goals as goal

pub accept-requires-clause-accepted : goal.accept-requires-clause-accepted
unfolding left
accept-requires-clause-accepted g c =
    let table : c.self.inside.table ≡ left c.args.self.now =
    subst (λ (h : History). c.self.inside.table ≡ left h) c.self.view_is c.self.invariant.table in
    subst (λ (p : Past). accepts p c.args.event ≡ true) (sym table) (c.requires ∙ ap is_none c.in_default.is)

pub accept-requires-clause-room : goal.accept-requires-clause-room
accept-requires-clause-room g c =
    let seen : c.self.inside.table.seen ≡ length c.self.inside.events.items =
    ap (λ (p : Past). p.seen) c.self.invariant.table
    ∙ seen-past c.self.inside.infos.items c.self.inside.last_offset c.self.inside.events.items in
    omega (arith, c.self.inside.events.ok, c.self.inside.events.small)

pub invariant_of-self-2 : goal.invariant_of-self-2
unfolding left
invariant_of-self-2 g c =
    let accepted : accepts (past c.self.inside.infos.items c.self.inside.last_offset c.self.inside.events.items) c.args.event ≡ true =
    subst (λ (h : History). accepts (left h) c.args.event ≡ true) (sym c.self.view_is)
    (c.requires ∙ ap is_none c.in_default.is) in
    let added : c.push.new.self.items ≡ c.self.inside.events.items ++ c.args.event ∷ [] = c.in-Ok.ensures.items in
    record {
      legal = subst (λ (events : List Event). IsLegal c.self.inside.infos.items c.self.inside.last_offset events)
          (sym added)
          (legal_more c.self.inside.infos.items c.self.inside.last_offset c.self.inside.events.items c.args.event c.self.invariant.legal accepted);
      table = c.accept.ensures ∙ ap (λ (p : Past). after_one p c.args.event) c.self.invariant.table
          ∙ sym (past_more c.self.inside.infos.items c.self.inside.last_offset c.self.inside.events.items c.args.event)
          ∙ ap (λ (events : List Event). past c.self.inside.infos.items c.self.inside.last_offset events) (sym added);
    }
