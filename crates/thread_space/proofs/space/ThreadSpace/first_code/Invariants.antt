-- No part so far is one.
use Rattle.std.proofs.Common.{◌≡◌, drop}
use Rattle.thread_space.specs.Fetching.{first_code}
use Rattle.thread_space.proofs.space.ThreadSpace.first_code.Given as goal

abbrev pub invariant-loop-number : goal.invariant-loop-number
invariant-loop-number l =
    first_code l.self.vector.images l.image l.instance l.place 0 l.image.parts
    ≡ first_code l.self.vector.images l.image l.instance l.place l.number (drop l.number l.image.parts)
