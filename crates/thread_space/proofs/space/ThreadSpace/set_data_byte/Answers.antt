-- The byte lies in the data.
use Rattle.std.proofs.Common.{◌≡◌, ◌∙◌, ◌-◌, ℕ, ap, sym}
use Rattle.std.specs.Prelude.{is_some, option_and_then}
use Rattle.module_data.specs.Laws.{byte_read, written}
use Rattle.thread_space.specs.Kept.{Kept}
use Rattle.thread_space.specs.Places.{behind}
use Rattle.thread_space.proofs.OwnBytes.{behind_is, data_begin, data_has}
use Rattle.thread_space.proofs.space.ThreadSpace.set_data_byte.Goals as goal

pub set_byte-requires : goal.set_byte-requires
set_byte-requires c =
    ap (λ (k : Kept). is_some
    (byte_read k.pieces c.args.instance.now.number c.args.instance.now.image c.in-Some.at)) c.self.view_is
    ∙ data_has c.args.self.now.vector.images c.args.self.now.pieces c.args.instance.now c.args.place c.in-Some.at c.requires (sym c.behind_data.ensures ∙ c.in-Some.is)

pub returns-in-Some : goal.returns-in-Some
returns-in-Some c = record {
  vector = ap (λ (k : Kept). k.vector) c.self.view_is;
  pieces = λ start begins.
      let at : c.in-Some.at ≡ c.args.place - start =
      behind_is start c.args.place c.in-Some.at
      (sym (ap (option_and_then (λ start. behind start c.args.place)) begins) ∙ sym c.behind_data.ensures
      ∙ c.in-Some.is)
      in
      c.set_byte.ensures
      ∙ ap (λ (k : Kept). written c.args.instance.now.image k.pieces
      (record { at = c.in-Some.at; byte = c.args.byte })) c.self.view_is
      ∙ ap (λ (i : ℕ). written c.args.instance.now.image c.args.self.now.pieces
      (record { at = i; byte = c.args.byte })) at;
  stack = ap (λ (k : Kept). k.stack) c.self.view_is;
}

pub returns-in_default : goal.returns-in_default
returns-in_default c = absurd
    (data_begin c.args.self.now.vector.images c.args.self.now.pieces c.args.instance.now c.args.place c.requires
    (sym c.behind_data.ensures ∙ c.in_default.is))
