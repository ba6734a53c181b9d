use Rattle.std.proofs.Common.{◌≡◌, ◌∙◌, ◌+◌, ap, arith, sym, subst, false, true, is_some, List, ℕ}
use Rattle.std.specs.Map.{keys_of, lookup}
use Rattle.indexmap.specs.IndexMap.{insert_entry}
use Rattle.got_pairs.specs.declared.need.Need.{Need}
use Rattle.got_pairs.specs.contracts.need.NeedPartialEq.TheImpl.{eq-value}
use Rattle.got_pairs.specs.Needs.{size_of, total_size}
use Rattle.got_pairs.specs.Plans.{with_need}
use Rattle.got_pairs.specs.Needs.{starts_from}
use Rattle.got_pairs.proofs.Starts.{adds, grown, keeps, table_with}
use Rattle.got_pairs.proofs.got_plan.GotPlan.add.Goals as goal

pub returns-then-contains_key : goal.returns-then-contains_key
returns-then-contains_key c =
    let before = c.self.inside in
    let es = before.starts.entries in
    let need = c.args.need.now in
    let there : is_some (lookup ((eq-value).it need) es) ≡ true = cc in
    sym c.self.view_is ∙ table_with before.kind before.block_offset (keys_of es) c.args.self.now
    (λ ks. with_need ks need) (keys_of es) c.self.view_is (sym (keeps es need there))

pub invariant_of-self-2 : goal.invariant_of-self-2
invariant_of-self-2 c =
    let es = c.self.inside.starts.entries in
    let need = c.args.need.now in
    let size = c.self.inside.size in
    let none : is_some (lookup ((eq-value).it need) es) ≡ false = cc in
    let all = grown es need size c.self.invariant.0 c.self.invariant.1 none in
    let now : c.insert.new.self.entries ≡ insert_entry ((eq-value).it) es need size =
    c.in_ok-insert.ensures.entries ∙ ap (λ n. insert_entry ((eq-value).it) es n size) c.again.ensures in
    let P : List (Need × ℕ)
    → Type 0 = λ f. (f ≡ starts_from 0 (keys_of f)) × (c.in-Some.end ≡ total_size (keys_of f)) in
    let end : c.in-Some.end ≡ size + size_of need = omega (arith, c.in-Some.ensures, c.size.ensures) in
    subst P (sym now) (all.starts, end ∙ all.size_is)

pub returns : goal.returns
returns c =
    let before = c.self.inside in
    let es = before.starts.entries in
    let need = c.args.need.now in
    let size = before.size in
    let none : is_some (lookup ((eq-value).it need) es) ≡ false = cc in
    let all = grown es need size c.self.invariant.0 c.self.invariant.1 none in
    let now : c.insert.new.self.entries ≡ insert_entry ((eq-value).it) es need size =
    c.in_ok-insert.ensures.entries ∙ ap (λ n. insert_entry ((eq-value).it) es n size) c.again.ensures in
    let more = ap keys_of now ∙ all.keys ∙ sym (adds es need none) in
    table_with before.kind before.block_offset (keys_of es) c.args.self.now (λ ks. with_need ks need)
    (keys_of c.insert.new.self.entries) c.self.view_is more
