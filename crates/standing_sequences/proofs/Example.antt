-- The example, computed.
use Rattle.std.proofs.Common.{◌≡◌, ◌∙◌, ℕ, true, false, Some, sym, refl, subst}
use Rattle.std.proofs.lemmas.Option.{same_Some}
use Rattle.link_faults.specs.declared.binding.Binding.{Binding}
use Rattle.link_faults.specs.declared.binding.Binding.TheVariants.{Here, Startup}
use Rattle.relax_sites.specs.declared.choices.Choice.{Choice}
use Rattle.sequence_forms.specs.declared.forms.Form.TheVariants.{IeMov}
use Rattle.link_needs.specs.Linking.{binding}
use Rattle.sequence_match.specs.Sites.{first_of}
use Rattle.standing_sequences.specs.Bytes.{byte_at}
use Rattle.standing_sequences.specs.Example.{ExampleStands, HasCode, kept_code, loads_y, object}
use Rattle.standing_sequences.specs.Example.{program, rewritten_code}
use Rattle.standing_sequences.specs.Table.{IsInTable, Matches}
use Rattle.link_core.proofs.Computed.{linked}

bound_there : binding (program true) 0 (first_of loads_y) ≡ Some (Startup 2)
unfolding linked program object
bound_there = refl

not_listed : (image : ℕ) (choice : Choice) → IsInTable IeMov (Startup image) choice → ⊥
not_listed image choice h = h

none_for_y : (choice : Choice) → Matches (program true) 0 loads_y choice → ⊥
none_for_y choice m =
    let same : m.bound ≡ Startup 2 = same_Some m.bound (Startup 2) (sym m.bound_is ∙ bound_there) in
    not_listed 2 choice (subst (λ (b : Binding). IsInTable IeMov b choice) same m.listed)

rewritten_has : HasCode (program true) rewritten_code
unfolding linked program object byte_at
rewritten_has = refl

kept_has : HasCode (program false) kept_code
unfolding linked program object byte_at
kept_has = refl

pub example_stands : ExampleStands
unfolding linked program object
example_stands = record {
  own = record {
    asked = refl;
    program = refl;
    bound = Here (record { object = 0; symbol = 1 });
    bound_is = refl;
    listed = tt;
  };
  theirs = record { asked = refl; program = refl; bound = Startup 2; bound_is = refl; listed = tt };
  reads_already = none_for_y;
  rewritten = rewritten_has;
  not_asked = λ site choice m. let e = m.asked in cc;
  kept = kept_has;
}
