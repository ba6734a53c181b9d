-- The byte is one of the block.
use Rattle.std.proofs.Common.{◌≡◌, ◌∙◌, ℕ, List, Bor, None, ap, sym, slice_get}
use Rattle.std.specs.Prelude.{option_and_then, option_map}
use Rattle.thread_space.proofs.OwnBytes.{block_byte_of, block_read, block_write}
use Rattle.thread_space.proofs.space.ThreadSpace.block_byte.Goals as goal
use Rattle.thread_vector.specs.Vectors.{held}

none : (c : goal.In_default)
    → block_byte_of c.args.self.now.vector c.args.instance.now c.args.place
    (held c.args.self.now.vector c.args.instance.now.number) ≡ None
none c =
    ap (block_byte_of c.args.self.now.vector c.args.instance.now c.args.place)
    (c.block.ensures ∙ ap (option_map (λ (b : Bor (List ℕ)). b.now)) c.in_default.is)

before : (c : goal.In_default-behind_block)
    → block_byte_of c.args.self.now.vector c.args.instance.now c.args.place
    (held c.args.self.now.vector c.args.instance.now.number) ≡ None
before c =
    ap (block_byte_of c.args.self.now.vector c.args.instance.now c.args.place)
    (c.block.ensures ∙ ap (option_map (λ (b : Bor (List ℕ)). b.now)) c.in-Some.is)
    ∙ ap (option_and_then (slice_get c.in-Some.bytes.now)) (sym c.behind_block.ensures ∙ c.in_default-behind_block.is)

read : (c : goal.After-byte_of)
    → c.byte_of.result ≡ block_byte_of c.args.self.now.vector c.args.instance.now c.args.place
    (held c.args.self.now.vector c.args.instance.now.number)
read c =
    c.byte_of.ensures
    ∙ sym (ap (block_byte_of c.args.self.now.vector c.args.instance.now c.args.place)
    (c.block.ensures ∙ ap (option_map (λ (b : Bor (List ℕ)). b.now)) c.in-Some.is)
    ∙ ap (option_and_then (slice_get c.in-Some.bytes.now)) (sym c.behind_block.ensures ∙ c.in-Some-behind_block.is))

pub returns-in_default-clause-read : goal.returns-in_default-clause-read
returns-in_default-clause-read c = sym (block_read c.args.self.now.vector c.args.instance.now c.args.place ∙ none c)

pub returns-in_default-clause-written : goal.returns-in_default-clause-written
returns-in_default-clause-written c = sym (block_write c.args.self.now.vector c.args.instance.now c.args.place ∙ none c)

pub returns-in_default-behind_block-clause-read : goal.returns-in_default-behind_block-clause-read
returns-in_default-behind_block-clause-read c =
    sym (block_read c.args.self.now.vector c.args.instance.now c.args.place ∙ before c)

pub returns-in_default-behind_block-clause-written : goal.returns-in_default-behind_block-clause-written
returns-in_default-behind_block-clause-written c =
    sym (block_write c.args.self.now.vector c.args.instance.now c.args.place ∙ before c)

pub returns-clause-read : goal.returns-clause-read
returns-clause-read c = read c ∙ sym (block_read c.args.self.now.vector c.args.instance.now c.args.place)

pub returns-clause-written : goal.returns-clause-written
returns-clause-written c = read c ∙ sym (block_write c.args.self.now.vector c.args.instance.now c.args.place)
