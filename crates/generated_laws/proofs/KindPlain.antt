-- Shapes whose relocations name the variable, or the run time's function where they call it, and what a test of
-- relocations tells of objects that read as such shapes.
use Rattle.std.proofs.Common.{◌≡◌, ◌≢◌, ◌<◌, ◌≤◌, ◌⊎◌, ◌∙◌, ℕ, zero, suc, Bool, true, false, List, [], ◌∷◌, map, length}
use Rattle.std.proofs.Common.{inl, inr, refl, sym, ap, subst}
use Rattle.std.specs.List.{All}
use Rattle.std.proofs.lemmas.Bool.{cases_eq}
use Rattle.elf_object.specs.declared.relocation.Relocation.{Relocation}
use Rattle.object_faults.specs.Firsts.{nonzero}
use Rattle.link_faults.specs.declared.image_kind.ImageKind.{ImageKind}
use Rattle.link_faults.specs.declared.fault.LinkFaultKind.TheVariants.{LocalExecInModule, NarrowInModule}
use Rattle.link_needs.specs.Refusals.{is_refused}
use Rattle.tls_symbols.specs.Bindings.{object_at}
use Rattle.tls_symbols.specs.Faults.{held_for, held_in, is_tls_kind, NoneCharged, Test}
use Rattle.tls_symbols.proofs.FirstFaults.{ChargedAt, impossible}
use Rattle.tls_symbols.proofs.Search.{first_all, rest_all}
use Rattle.generated_job.specs.Shapes.{Shape}
use Rattle.generated_laws.specs.Reading.{ReadsAs, relocation_of}

-- ** shapes

-- a relocation of thread-local storage names the variable, another one the run time's function, where it is called
abbrev pub Suits : Bool → Relocation → Type 0
Suits calls r =
    ((r.symbol ≡ 2) × (is_tls_kind r.kind ≡ true)) ⊎ ((r.symbol ≡ 3) × (calls ≡ true) × (is_tls_kind r.kind ≡ false))

-- no kind of image refuses its type
pub record IsWelcome (r : Relocation) : Type 0 where
  pub no_local_exec : (image : ImageKind) → is_refused LocalExecInModule image r.kind ≡ false
  pub no_narrow : (image : ImageKind) → is_refused NarrowInModule image r.kind ≡ false

-- few relocations, each of which suits the shape and is welcome, a variable of some bytes, and short names
pub record IsPlain (s : Shape) : Type 0 where
  pub suits : All (Suits s.calls) (map relocation_of s.relocations)
  pub welcome : All IsWelcome (map relocation_of s.relocations)
  pub few : length s.relocations ≤ 3
  pub some_initial : 0 < length s.initial
  pub short_function : length s.function ≤ 5
  pub short_variable : length s.variable ≤ 5

-- ** tests of relocations

nowhere_in : {X : Type 0} (P : X → Type 0) (test : X → Bool) (xs : List X) → All P xs → ((x : X) → P x → test x ≡ false)
    → (e : ℕ) → ChargedAt test xs e → ⊥
nowhere_in P test [] all fails e passes = passes
nowhere_in P test (x ∷ xs) all fails zero passes =
    impossible (sym passes ∙ fails x (first_all P x xs (x ∷ xs) refl all))
nowhere_in P test (x ∷ xs) all fails (suc e) passes = nowhere_in P test xs (rest_all P x xs all) fails e passes

module _ (b : List ℕ) (s : Shape) (reads : ReadsAs b s) where
  -- section 2 holds the relocations, and no other holds any
  held_here : held_in b 2 ≡ map relocation_of s.relocations
  unfolding held_in
  held_here = ap (λ t. held_for b (nonzero t)) reads.target ∙ reads.relocations_are

  held_nowhere : (t : ℕ) → t ≢ 2 → held_in b t ≡ []
  unfolding held_in
  held_nowhere t other = ap (λ u. held_for b (nonzero u)) (reads.other_target t other)

  -- where all of them fail a test none that a section holds passes it
  pub none_held : (P : Relocation → Type 0) (test : Relocation → Bool) → All P (map relocation_of s.relocations)
      → ((r : Relocation) → P r → test r ≡ false) → (t e : ℕ) → ChargedAt test (held_in b t) e → ⊥
  none_held P test all fails t e passes = elim (cases_eq t 2) [
    | inl same ↦
        nowhere_in P test (map relocation_of s.relocations) all fails e
        (subst (λ held. ChargedAt test held e) (ap (held_in b) same ∙ held_here) passes)
    | inr other ↦ subst (λ held. ChargedAt test held e) (held_nowhere t other) passes
  ]

-- ** objects that read as plain shapes

-- the shape of each object, by its number
pub record ReadAsShapes (objects : List (List ℕ)) (shape : ℕ → Shape) : Type 0 where
  pub reads : (o : ℕ) → o < length objects → ReadsAs (object_at objects o) (shape o)
  pub plain : (o : ℕ) → o < length objects → IsPlain (shape o)

module _ (objects : List (List ℕ)) (shape : ℕ → Shape) (given : ReadAsShapes objects shape) where
  -- none is charged where what suits a shape fails the test
  pub none_charged : (test : Test)
      → ((o : ℕ) → o < length objects → (r : Relocation) → Suits (shape o).calls r → test o r ≡ false)
      → NoneCharged test objects
  none_charged test fails = record {
    nowhere = λ o s e here.
        none_held (object_at objects o) (shape o) (given.reads o here.0) (Suits (shape o).calls) (test o)
        (given.plain o here.0).suits
        (fails o here.0) s e here.3;
  }

  -- nor where what is welcome does
  pub none_unwelcome : (test : Test) → ((o : ℕ) (r : Relocation) → IsWelcome r → test o r ≡ false)
      → NoneCharged test objects
  none_unwelcome test fails = record {
    nowhere = λ o s e here.
        none_held (object_at objects o) (shape o) (given.reads o here.0) IsWelcome (test o)
        (given.plain o here.0).welcome
        (fails o) s e here.3;
  }
