-- One relocation more among those that are noted.
use Rattle.std.proofs.Common.{◌≡◌, ◌<◌, ◌≤◌, inl, inr, ◌∙◌, ◌++◌, ◌==◌, ◌&&◌, ◌||◌, ℕ, Bool, true, false, List}
use Rattle.std.proofs.Common.{[], ◌∷◌, length, refl, sym, ap, subst, arith}
use Rattle.std.specs.Prelude.{replicate, slice_index_or, slice_set}
use Rattle.std.specs.List.{list_any}
use Rattle.std.proofs.lemmas.List.Folds.{list_any-append}
use Rattle.std.proofs.lemmas.Bool.Decides.{eqb_tells}
use Rattle.std.proofs.lemmas.Grind.{get_or-set_at}
use Rattle.std.proofs.lemmas.List.{get_or-replicate, get_or-set_other, length-replicate, length-set}
use Rattle.elf_records.specs.declared.relocation_row.SymbolRole.{SymbolRole}
use Rattle.elf_records.specs.RelocationRows.{row}
use Rattle.elf_object.specs.declared.relocation.Relocation.{Relocation}
use Rattle.elf_object.specs.declared.noted.Roles.{Roles}
use Rattle.elf_object.specs.declared.noted.Traits.{Traits}
use Rattle.elf_object.specs.Noted.{is_named, is_ordinary, is_own_variable, is_any_variable, roles_of, traits_of}
use Rattle.elf_object.specs.Noted.{with_role, with_traits, AreNoted, AreRoles}

or_false : (t : Bool) → (t || false) ≡ t
or_false true = refl
or_false false = refl

-- a test of a list with one element more
any_more : {X : Type 0} (p : X → Bool) (xs : List X) (x : X) → list_any p (xs ++ x ∷ []) ≡ (list_any p xs || p x)
any_more p xs x = list_any-append p xs (x ∷ []) ∙ ap (λ t. list_any p xs || t) (or_false (p x))

pub traits_more : (seen : List Relocation) (r : Relocation)
    → with_traits (traits_of seen) r ≡ traits_of (seen ++ r ∷ [])
unfolding traits_of
traits_more seen r = rw (any_more _ seen r, any_more _ seen r, any_more _ seen r, any_more _ seen r) refl

-- another symbol's roles stay
named_more : (is_role : SymbolRole → Bool) (e : ℕ) (seen : List Relocation) (r : Relocation) (t : Bool)
    → (r.symbol == e) ≡ t
    → is_named is_role e (seen ++ r ∷ []) ≡ (is_named is_role e seen || (t && is_role (row r.kind).symbol))
named_more is_role e seen r t same = any_more _ seen r
    ∙ ap (λ t. is_named is_role e seen || (t && is_role (row r.kind).symbol)) same

roles_here : (seen : List Relocation) (r : Relocation) (e : ℕ) → (r.symbol == e) ≡ true
    → with_role (roles_of seen e) (row r.kind).symbol ≡ roles_of (seen ++ r ∷ []) e
unfolding roles_of
roles_here seen r e same =
    rw (
      named_more is_ordinary e seen r true same,
      named_more is_own_variable e seen r true same,
      named_more is_any_variable e seen r true same,
    ) refl

roles_elsewhere : (seen : List Relocation) (r : Relocation) (e : ℕ) → (r.symbol == e) ≡ false
    → roles_of seen e ≡ roles_of (seen ++ r ∷ []) e
unfolding roles_of
roles_elsewhere seen r e other =
    rw (
      named_more is_ordinary e seen r false other,
      named_more is_own_variable e seen r false other,
      named_more is_any_variable e seen r false other,
      or_false (is_named is_ordinary e seen),
      or_false (is_named is_own_variable e seen),
      or_false (is_named is_any_variable e seen),
    ) refl

-- a symbol's roles, noted
pub noted_here : (seen : List Relocation) (r : Relocation) (roles : List Roles) (none new : Roles)
    (role : SymbolRole) → role ≡ (row r.kind).symbol → r.symbol < length roles
    → new ≡ with_role (slice_index_or roles r.symbol none) role
    → AreRoles seen roles → AreRoles (seen ++ r ∷ []) (slice_set roles r.symbol new)
noted_here seen r roles none new role role_is inside is known e d below =
    let there : e < length roles = omega (arith, below, length-set roles r.symbol new) in
    elim (eqb_tells r.symbol e) [
      | inl same ↦
          let After : ℕ → Type 0 =
          λ x. slice_index_or (slice_set roles r.symbol new) x d ≡ roles_of (seen ++ r ∷ []) x in
          let found = subst (λ x. (r.symbol == x) ≡ true) (sym same.1) same.0 in
          subst After same.1
          (get_or-set_at roles r.symbol r.symbol new d refl inside ∙ is
          ∙ ap (with_role (slice_index_or roles r.symbol none)) role_is
          ∙ ap (λ own. with_role own (row r.kind).symbol) (known r.symbol none inside)
          ∙ roles_here seen r r.symbol found)
      | inr other ↦
          get_or-set_other roles r.symbol e new d (λ same. other.1 (sym same))
          ∙ known e d there ∙ roles_elsewhere seen r e other.0
    ]

-- a relocation whose symbol has no place among them
pub noted_nowhere : (seen : List Relocation) (r : Relocation) (roles : List Roles) → length roles ≤ r.symbol
    → AreRoles seen roles → AreRoles (seen ++ r ∷ []) roles
noted_nowhere seen r roles past known e d below =
    elim (eqb_tells r.symbol e) [
      | inl same ↦ absurd (omega (arith, below, past, same.1))
      | inr other ↦ known e d below ∙ roles_elsewhere seen r e other.0
    ]

-- one relocation more, noted
pub noted_more : (symbols : ℕ) (seen : List Relocation) (r : Relocation) (old new : List Roles) (was now : Traits)
    → now ≡ with_traits was r → length new ≡ length old → (AreRoles seen old → AreRoles (seen ++ r ∷ []) new)
    → AreNoted symbols seen old was → AreNoted symbols (seen ++ r ∷ []) new now
noted_more symbols seen r old new was now traits len roles noted = record {
  len = len ∙ noted.len;
  roles_are = roles noted.roles_are;
  traits_are = traits ∙ ap (λ own. with_traits own r) noted.traits_are ∙ traits_more seen r;
}

-- the notes of no relocation
pub noted_none : (symbols : ℕ) (roles : List Roles) (traits : Traits) → roles ≡ replicate symbols (roles_of [] 0)
    → traits ≡ traits_of [] → AreNoted symbols [] roles traits
unfolding roles_of
noted_none symbols roles traits roles_are traits_are = record {
  len = ap length roles_are ∙ length-replicate symbols (roles_of [] 0);
  roles_are = λ e d below. ap (λ all. slice_index_or all e d) roles_are
      ∙ get_or-replicate symbols e (roles_of [] 0) d
      (omega (arith, below, ap length roles_are, length-replicate symbols (roles_of [] 0)));
  traits_are = traits_are;
}
