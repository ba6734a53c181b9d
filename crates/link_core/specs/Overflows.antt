-- What is asked of fields.
use Rattle.std.specs.Prelude.{◌≡◌, ◌<◌, ℕ, List, length}
use Rattle.link_core.specs.declared.overflow.FieldQuestion.{FieldQuestion}
use Rattle.link_needs.specs.Given.{IsGiven}
use Rattle.link_needs.specs.Linking.{object}
use Rattle.link_tables.specs.Faults.{IsOverflow, IsSound}
use Rattle.tls_symbols.specs.declared.uses.Use.{Use}
use Rattle.tls_symbols.specs.Walks.{IsUse}

-- the field of a relocation can't hold its value
abbrev pub Overfills : FieldQuestion → Use → Type 0
Overfills q u = IsOverflow q.plan.now u.place.object u.section u.relocation

-- the relocation is one of the link's
abbrev pub IsOfLink : FieldQuestion → Use → Type 0
IsOfLink q u = IsUse q.plan.now.objects u

-- object o is one of the link's, which has no other fault
pub record IsOfSound (q : FieldQuestion) (o : ℕ) (b : List ℕ) : Type 0 where
  pub given : IsGiven q.plan.now
  pub sound : IsSound q.plan.now
  pub there : o < length q.plan.now.objects
  pub here : b ≡ object q.plan.now o
