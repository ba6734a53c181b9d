-- What a question about names asks of a relocation is what it asks of its symbol, in the role in which its type names
-- the symbol. So a relocation has a fault only where a symbol has it in a role that is noted.
use Rattle.std.proofs.Common.{◌≡◌, ◌≢◌, ◌∙◌, ◌==◌, ◌&&◌, ◌<◌, ℕ, Bool, true, false, List, Option, Some, None, refl, sym}
use Rattle.std.proofs.Common.{ap, subst, arith}
use Rattle.std.specs.List.{Contains}
use Rattle.std.proofs.lemmas.List.Folds.{list_any_at}
use Rattle.elf_records.specs.declared.relocation.RelocationKind.{RelocationKind}
use Rattle.elf_records.specs.declared.relocation.RelocationKind.TheVariants.{Nothing}
use Rattle.elf_records.specs.declared.relocation_row.SymbolRole.{SymbolRole}
use Rattle.elf_records.specs.declared.relocation_row.SymbolRole.TheVariants.{NoSymbol, Ordinary, OwnVariable}
use Rattle.elf_records.specs.declared.relocation_row.SymbolRole.TheVariants.{AnyVariable}
use Rattle.elf_records.specs.RelocationRows.{is_named, row}
use Rattle.elf_object.specs.declared.relocation.Relocation.{Relocation}
use Rattle.elf_object.specs.LawsOfNotes.{every_relocation}
use Rattle.elf_object.specs.Noted.{all_relocations, roles_of, is_any_variable, is_ordinary, is_own_variable}
use Rattle.elf_object.specs.Noted.{is_named as names_among}
use Rattle.elf_object.specs.Parts.{symbol_count}
use Rattle.link_faults.specs.declared.binding.Binding.{Binding}
use Rattle.link_faults.specs.declared.fault.LinkFaultKind.{LinkFaultKind}
use Rattle.link_faults.specs.declared.fault.LinkFaultKind.TheVariants.{Undefined, NotTls}
use Rattle.tls_symbols.specs.declared.charges.NameQuestion.{NameQuestion}
use Rattle.tls_symbols.specs.Bindings.{binding_of}
use Rattle.tls_symbols.specs.Charges.{has_role, is_charged_as, is_unsuited, IsAbout, IsClear}
use Rattle.tls_symbols.specs.Faults.{is_faulty, is_mismatched, names_symbol}
use Rattle.tls_symbols.specs.Searches.{NoneIn}

module _ (objects : List (List ℕ)) (startup : List (List (List ℕ))) where
  unsuited_is : (kind : RelocationKind) (found : Option Binding)
      → is_mismatched objects kind found ≡ is_unsuited objects (row kind).symbol found
  unsuited_is kind None = refl
  unsuited_is kind (Some x) = refl

  and_false : (t : Bool) → false ≡ (t && false)
  and_false true = refl
  and_false false = refl

  pub charged_is : (fault : LinkFaultKind) (o : ℕ) (r : Relocation)
      → is_faulty fault objects startup o r ≡ is_charged_as fault objects startup o r.symbol (row r.kind).symbol
  charged_is Undefined o r = refl
  charged_is NotTls o r = ap (λ t. names_symbol r.kind && t) (unsuited_is r.kind (binding_of objects startup o r))
  charged_is fault o r = and_false (names_symbol r.kind)

-- the roles in which relocations name a symbol are noted
same : (n : ℕ) → (n == n) ≡ true
same n = grind arith

named_in : (is_role : SymbolRole → Bool) (all : List Relocation) (r : Relocation) → Contains all r
    → is_role (row r.kind).symbol ≡ true
    → names_among is_role r.symbol all ≡ true
named_in is_role all r has is =
    let p = λ (x : Relocation). (x.symbol == r.symbol) && is_role (row x.kind).symbol in
    let passes : p r ≡ true = rw (same r.symbol) is in
    list_any_at p all has.0 r has.1 (ap p has.2 ∙ passes)

noted : (all : List Relocation) (r : Relocation) → Contains all r → (role : SymbolRole) → (row r.kind).symbol ≡ role
    → is_named role ≡ true
    → has_role (roles_of all r.symbol) role ≡ true
unfolding roles_of
noted all r has NoSymbol is named = named
noted all r has Ordinary is named = named_in is_ordinary all r has (ap is_ordinary is)
noted all r has OwnVariable is named = named_in is_own_variable all r has (ap is_own_variable is)
noted all r has AnyVariable is named = named_in is_any_variable all r has (ap is_any_variable is)

both_first : (s t : Bool) → (s && t) ≡ true → s ≡ true
both_first true t e = refl
both_first false t e = cc

impossible : false ≡ true → ⊥
impossible h = cc

-- a type that names a symbol is not NONE
pub named_type : (kind : RelocationKind) → is_named (row kind).symbol ≡ true → kind ≢ Nothing
named_type kind named none = impossible (sym (ap (λ kind. is_named (row kind).symbol) none) ∙ named)

pub none_charged : (q : NameQuestion) (o : ℕ) (b : List ℕ)
    → ((e : ℕ) → e < symbol_count b → IsClear q o e (roles_of (all_relocations b) e)) → NoneIn (IsAbout q) o b
none_charged q o b clear u is passes =
    let objects = q.names.now.objects.now in
    let startup = q.names.now.startup.now in
    let r = u.relocation in
    let role = (row r.kind).symbol in
    let here : is_faulty q.kind objects startup o r ≡ true =
    subst (λ o. is_faulty q.kind objects startup o r ≡ true) is.object passes in
    let charged : is_charged_as q.kind objects startup o r.symbol role ≡ true =
    sym (charged_is objects startup q.kind o r) ∙ here in
    let named : is_named role ≡ true = both_first (is_named role) _ charged in
    let all : Contains (all_relocations b) r = every_relocation b u.section r is.own in
    impossible (sym (clear r.symbol (is.lawful.symbol (named_type r.kind named)).1 role
    (noted (all_relocations b) r all role refl named)) ∙ charged)
