-- A thread's vector as contracts see it.
use Rattle.thread_vector.specs.declared.dtv.Dtv.TheInside.{Inside}
use Rattle.thread_vector.specs.Vectors.{Vector}
use Rattle.thread_vector.specs.Holding.{IsVector}

abbrev pub vector_of : Inside → Vector
vector_of d = record { thread = d.thread; images = d.modules.now; past = d.table; slots = d.slots.items }

abbrev pub HoldsVector : Inside → Type 0
HoldsVector d = IsVector (vector_of d)
