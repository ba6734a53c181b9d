-- The byte is one of the data.
use Rattle.std.proofs.Common.{◌≡◌, ◌∙◌, ap, sym}
use Rattle.std.specs.Prelude.{option_and_then}
use Rattle.module_data.specs.Laws.{byte_read}
use Rattle.thread_space.proofs.OwnBytes.{data_read, data_write}
use Rattle.thread_space.proofs.space.ThreadSpace.data_byte.Goals as goal

pub returns-in_default-clause-read : goal.returns-in_default-clause-read
returns-in_default-clause-read c =
    sym (data_read c.args.self.now.vector.images c.args.self.now.pieces c.args.instance.now c.args.place
    ∙ ap (option_and_then (byte_read c.args.self.now.pieces c.args.instance.now.number c.args.instance.now.image))
    (sym c.behind_data.ensures ∙ c.in_default.is))

pub returns-in_default-clause-written : goal.returns-in_default-clause-written
returns-in_default-clause-written c =
    sym (data_write c.args.self.now.vector.images c.args.self.now.pieces c.args.instance.now c.args.place
    ∙ ap (option_and_then (byte_read c.args.self.now.pieces c.args.instance.now.number c.args.instance.now.image))
    (sym c.behind_data.ensures ∙ c.in_default.is))

read : (c : goal.After-byte)
    → c.byte.result ≡ byte_read c.args.self.now.pieces c.args.instance.now.number c.args.instance.now.image c.in-Some.at
read c = c.byte.ensures
    ∙ ap (λ k. byte_read k.pieces c.args.instance.now.number c.args.instance.now.image c.in-Some.at) c.self.view_is

pub returns-clause-read : goal.returns-clause-read
returns-clause-read c =
    read c
    ∙ sym (data_read c.args.self.now.vector.images c.args.self.now.pieces c.args.instance.now c.args.place
    ∙ ap (option_and_then (byte_read c.args.self.now.pieces c.args.instance.now.number c.args.instance.now.image))
    (sym c.behind_data.ensures ∙ c.in-Some.is))

pub returns-clause-written : goal.returns-clause-written
returns-clause-written c =
    read c
    ∙ sym (data_write c.args.self.now.vector.images c.args.self.now.pieces c.args.instance.now c.args.place
    ∙ ap (option_and_then (byte_read c.args.self.now.pieces c.args.instance.now.number c.args.instance.now.image))
    (sym c.behind_data.ensures ∙ c.in-Some.is))
