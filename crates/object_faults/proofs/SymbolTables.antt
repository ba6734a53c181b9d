-- The faults of the symbol table: those of the first section of symbols come before a second such section.
use Rattle.std.proofs.Common.{◌≡◌, ◌<◌, ◌≤◌, ℕ, List, refl, sym, subst, inl, inr, arith}
use Rattle.object_rules.specs.declared.fault.FaultKind.TheVariants.{SymbolTable}
use Rattle.object_faults.specs.Parts.{header, section, symbol_table, IsTable}
use Rattle.object_faults.specs.Faults.{Stands, Nowhere, NoneBelow, IsFirst, IsBadTable}
use Rattle.object_faults.proofs.Order.{first_of}
use Rattle.object_faults.specs.Searches.{table_is, table_least}

-- the kind stands at no section before the symbol table, and behind it at sections of symbols alone
in_tables : (b : List ℕ) (s e : ℕ) → Stands SymbolTable b s e
    → (0 < symbol_table b) × (symbol_table b ≤ s) × (symbol_table b < s → (e ≡ 0) × IsTable b s)
unfolding Stands
in_tables b s e h = elim h [
  | inl table ↦ let least = table_least b s table.1.0.0 table.1.0.1 table.1.1 in
      (least.0, least.1, λ _. (table.0, table.1))
  | inr symbol ↦ (
    omega (arith, symbol.0.0, symbol.0.1),
    omega (arith, symbol.0.1),
    λ past. absurd (omega (arith, symbol.0.1)),
  )
]

-- without a section of symbols
pub no_table : (b : List ℕ) → symbol_table b ≡ 0 → Nowhere SymbolTable b
no_table b none s e h = let found = in_tables b s e h in omega (arith, found.0)

-- the symbol table is a section of symbols
pub is_table_of : (b : List ℕ) (t : ℕ) → t ≡ symbol_table b → 0 < t → IsTable b t
is_table_of b t same some =
    let found = table_is b (omega arith) in
    let P : ℕ → Type 0 = λ x. (x < (header b).e_shnum) × ((section b x).kind ≡ 2) in
    let here : P t = subst P (sym same) found in
    ((some, here.0), here.1)

-- nothing comes before the symbol table
none_before : (b : List ℕ) (t u f : ℕ) → t ≡ symbol_table b → u < t → Stands SymbolTable b u f → ⊥
none_before b t u f same h w = let found = in_tables b u f w in omega (arith, found.1)

-- a fault of the symbol table itself
pub bad_table : (b : List ℕ) (t : ℕ) → t ≡ symbol_table b → NoneBelow 7 b → IsTable b t → IsBadTable b t
    → IsFirst Stands b t 0 SymbolTable
unfolding Stands
bad_table b t same below table bad =
    first_of SymbolTable b t 0 below (inl (refl, table, bad)) (λ u h f w. none_before b t u f same h w)
    (λ f h w. omega arith)

-- at the symbol table, a fault is its own or that of a symbol
at_table : (b : List ℕ) (t f : ℕ) → (IsBadTable b t → ⊥) → Stands SymbolTable b t f → 0 < f
unfolding Stands
at_table b t f fine h = elim h [ inl table ↦ absurd (fine table.2) | inr symbol ↦ symbol.0.2 ]

-- a fault of a symbol
pub bad_symbol : (b : List ℕ) (t e : ℕ) → t ≡ symbol_table b → NoneBelow 7 b → (IsBadTable b t → ⊥)
    → Stands SymbolTable b t e
    → ((f : ℕ) → f < e → (0 < f) × Stands SymbolTable b t f → ⊥) → IsFirst Stands b t e SymbolTable
bad_symbol b t e same below fine here none =
    first_of SymbolTable b t e below here (λ u h f w. none_before b t u f same h w)
    (λ f h w. none f h (at_table b t f fine w, w))

-- where the symbol table and its symbols are fine, the kind stands at second tables alone
only_second : (b : List ℕ) (t u f : ℕ) → t ≡ symbol_table b → (IsBadTable b t → ⊥)
    → ((f : ℕ) → (0 < f) × Stands SymbolTable b t f → ⊥)
    → Stands SymbolTable b u f → (t < u) × IsTable b u
only_second b t u f same fine none w =
    let found = in_tables b u f w in
    let not_at : (u ≡ t → ⊥) = λ at.
    let P : ℕ → Type 0 = λ x. Stands SymbolTable b x f in
    let here : P t = subst P at w in
    none f (at_table b t f fine here, here) in
    let past : t < u = omega (arith, found.1) in
    let behind : symbol_table b < u = omega arith in
    (past, (found.2 behind).1)

-- a second section of symbols
pub second_table : (b : List ℕ) (t s : ℕ) → t ≡ symbol_table b → NoneBelow 7 b → (IsBadTable b t → ⊥)
    → ((f : ℕ) → (0 < f) × Stands SymbolTable b t f → ⊥) → (t < s) × IsTable b s
    → ((u : ℕ) → u < s → (t < u) × IsTable b u → ⊥) → IsFirst Stands b s 0 SymbolTable
unfolding Stands
second_table b t s same below fine none here first =
    let other : s ≡ symbol_table b → ⊥ = λ at. omega (arith, here.0) in
    first_of SymbolTable b s 0 below (inl (refl, here.1, inl other))
    (λ u h f w. first u h (only_second b t u f same fine none w)) (λ f h w. omega arith)

-- no fault of the kind
pub tables_fine : (b : List ℕ) (t : ℕ) → t ≡ symbol_table b → (IsBadTable b t → ⊥)
    → ((f : ℕ) → (0 < f) × Stands SymbolTable b t f → ⊥) → ((u : ℕ) → (t < u) × IsTable b u → ⊥) → Nowhere SymbolTable b
tables_fine b t same fine none only s e w = only s (only_second b t s e same fine none w)
