use Rattle.std.proofs.Common.{◌∙◌, sym, ap}
use Rattle.std.specs.List.{list_any}
use Rattle.sequence_forms.specs.declared.places.Site.{Site}
use Rattle.link_needs.specs.Values.{is_local}
use Rattle.link_needs.proofs.PlanLemmas.{any_map, counts_then}
use Rattle.link_needs.proofs.inputs.Inputs.counts_from_thread_pointer.Goals as goal

pub returns-then-is_rewriting : goal.returns-then-is_rewriting
returns-then-is_rewriting c =
    counts_then c.args.self.now c.any_local.result (sym c.is_rewriting.ensures ∙ c.if-is_rewriting.true)
    (c.any_local.ensures
    ∙ any_map (list_any (λ (site : Site). is_local site.form)) (λ own. own.items) c.self.inside.sites.now
    ∙ ap (λ l. list_any (list_any (λ (site : Site). is_local site.form)) l.sites) c.self.view_is)
