-- One symbol, one number: all sequences of an image that make a symbol's descriptor, or call it, name one variable, one
-- entry of the table, and one distance.
use Rattle.std.proofs.Common.{◌≡◌, ◌∙◌, ◌<◌, ◌^◌, ◌⊎◌, ℕ, zero, suc, Bool, true, false, not, List}
use Rattle.std.proofs.Common.{[], Option, Some, None, IfSome, length, inl, inr, refl, sym, ap, subst, arith}
use Rattle.std.proofs.Common.{if◌then◌else◌}
use Rattle.std.specs.Prelude.{option_and_then, option_map, unwrap_or}
use Rattle.std.specs.List.{Contains}
use Rattle.std.specs.Str.{bytes_eq}
use Rattle.std.proofs.lemmas.List.Elements.{All-contains}
use Rattle.std.proofs.lemmas.Option.{same_Some}
use Rattle.elf_object.specs.declared.relocation.Relocation.{Relocation}
use Rattle.elf_records.specs.declared.symbol.SymbolBinding.TheVariants.{Local}
use Rattle.elf_object.specs.Laws.{symbols_few}
use Rattle.elf_object.specs.Lent.{symbol_binding, symbol_name}
use Rattle.elf_object.specs.Parts.{symbol_count}
use Rattle.got_pairs.specs.declared.need.Target.{Target}
use Rattle.got_pairs.specs.declared.need.Target.TheVariants as target
use Rattle.link_core.proofs.TogetherRows.{chosen_kept, chosen_taken, taken}
use Rattle.link_faults.specs.declared.binding.Binding.{Binding}
use Rattle.link_faults.specs.declared.binding.Binding.TheVariants.{Here, Startup, Runtime}
use Rattle.link_faults.specs.declared.symbol_ref.SymbolRef.{SymbolRef}
use Rattle.link_needs.specs.Given.{IsGiven}
use Rattle.link_needs.specs.Linking.{Linking, binding, choice, chosen, object, offset, sites_at}
use Rattle.link_needs.specs.Needs.{is_kept, target_by}
use Rattle.link_needs.specs.Values.{is_rewriting}
use Rattle.loaded_modules.specs.declared.instance.Instance.{Instance}
use Rattle.sequence_forms.specs.declared.forms.Form.{Form}
use Rattle.sequence_forms.specs.declared.forms.Form.TheVariants.{DescLea, DescCall}
use Rattle.sequence_forms.specs.declared.places.Site.{Site}
use Rattle.sequence_match.proofs.SitesSymbols.{sites_symbols}
use Rattle.sequence_match.specs.Sites.{first_of}
use Rattle.thread_blocks.specs.Turns.{at_number}
use Rattle.tls_symbols.proofs.Within.{binding_within, definition_within}
use Rattle.tls_symbols.specs.Bindings.{bound_to, IsBindingWithin, binding_of, first_export, here_or, may_import}
use Rattle.elf_records.specs.Symbols.{get_address}
use Rattle.tls_symbols.specs.Bindings.{object_at}
use Rattle.tls_symbols.specs.Bindings.{of_startup}
use Rattle.tls_symbols.specs.Definitions.{IsWithin, definition_of, same_binding}
use Rattle.whole_meaning.proofs.Numbers.{own_numbers}
use Rattle.whole_meaning.specs.Code.{Variable, defined_in, definition_number, no_variable, shared_by, variable_by}
use Rattle.whole_meaning.specs.Code.{variable_for}
use Rattle.tied_fields.specs.Laws.{is_of_descriptor}
use Rattle.tied_fields.specs.Settings.{number_for, target_at, variable_at}

-- a name that is bound to image k is that of one of its symbols
pub record IsImported (ls : List Linking) (name : List ℕ) (k : ℕ) : Type 0 where
  pub image : Linking
  pub at : at_number ls k ≡ Some image
  pub found : SymbolRef
  pub defined : definition_of image.objects name ≡ Some found
  pub named : name ≡ symbol_name (object image found.object) found.symbol

-- few objects, and few symbols in each
pub record IsSmall (found : SymbolRef) : Type 0 where
  pub object : found.object < 2 ^ 32
  pub symbol : found.symbol < 2 ^ 24

same_ref : (v w : SymbolRef) → v.object ≡ w.object → v.symbol ≡ w.symbol → v ≡ w
same_ref v w p q =
    let same : record { object = v.object; symbol = v.symbol } ≡ record { object = w.object; symbol = w.symbol } =
    rw (p, q) refl in same

small_within : (m : Linking) (found : SymbolRef) → IsGiven m → length m.objects < 2 ^ 32 → IsWithin m.objects found
    → IsSmall found
small_within m found given few within =
    let count = symbols_few (object m found.object) (given.are_objects found.object [] within.object) in
    record {
      object = omega (arith, within.object, few);
      symbol = omega (arith, within.symbol, count);
    }

some_is : {X : Type 0} (P : X → Type 0) (found : Option X) (x : X) → found ≡ Some x → IfSome found P → P x
some_is P found x e h = subst (λ (f : Option _). IfSome f P) e h

-- what is bound to another image's symbol has no definition in its own
not_own : (objects : List (List ℕ)) (startup : List (List (List ℕ))) (o : ℕ) (r : Relocation) (k : ℕ)
    → binding_of objects startup o r ≡ Some (Startup k)
    → definition_of objects (symbol_name (object_at objects o) r.symbol) ≡ None
unfolding bound_to
not_own objects startup o r k e =
    of_tests (same_binding Local (symbol_binding (object_at objects o) r.symbol))
    (bytes_eq (symbol_name (object_at objects o) r.symbol) get_address)
    (definition_of objects (symbol_name (object_at objects o) r.symbol)) e
  where
    of_tests : (local named : Bool) (found : Option SymbolRef)
        → (if local then Some (Here (record { object = o; symbol = r.symbol }))
        else if named then Some Runtime
        else here_or found (if may_import r.kind
        then of_startup (first_export (symbol_name (object_at objects o) r.symbol) 1 startup) else None))
        ≡ Some (Startup k) → found ≡ None
    of_tests true named found e = absurd (cc)
    of_tests false true found e = absurd (cc)
    of_tests false false (Some here) e = absurd (cc)
    of_tests false false None e = refl

-- ** choices

not_both : {X : Type 0} → false ≡ true → X
not_both e = absurd (cc)

taken_here : (form : Form) (v : SymbolRef) → is_of_descriptor form ≡ true → is_kept (taken form (Some (Here v))) ≡ false
taken_here DescLea v e = refl
taken_here DescCall v e = refl
taken_here form v e = not_both e

taken_startup : (form : Form) (k : ℕ) → is_of_descriptor form ≡ true → is_kept (taken form (Some (Startup k))) ≡ false
taken_startup DescLea k e = refl
taken_startup DescCall k e = refl
taken_startup form k e = not_both e

taken_runtime : (form : Form) → is_of_descriptor form ≡ true → is_kept (taken form (Some Runtime)) ≡ true
taken_runtime DescLea e = refl
taken_runtime DescCall e = refl
taken_runtime form e = not_both e

-- so it is kept where nothing is rewritten, unless it names no variable
module _ (l : Linking) (form : Form) (bound : Option Binding) where
  of_variable : is_kept (taken form bound) ≡ false → is_kept (chosen l form bound) ≡ not (is_rewriting l)
  of_variable gone = of_test (is_rewriting l) refl
    where
      of_test : (t : Bool) → is_rewriting l ≡ t → is_kept (chosen l form bound) ≡ not t
      of_test true e = ap is_kept (chosen_taken l form bound e) ∙ gone
      of_test false e = chosen_kept l form bound e

  of_none : is_kept (taken form bound) ≡ true → is_kept (chosen l form bound) ≡ true
  of_none stays = of_test (is_rewriting l) refl
    where
      of_test : (t : Bool) → is_rewriting l ≡ t → is_kept (chosen l form bound) ≡ true
      of_test true e = ap is_kept (chosen_taken l form bound e) ∙ stays
      of_test false e = chosen_kept l form bound e

variable_forms : (ls : List Linking) (image number : ℕ) (l : Linking) (o : ℕ) (site : Site) (form : Form)
    → is_of_descriptor form ≡ true
    → variable_for ls image number l o site form ≡ variable_by ls image number l o site (binding l o (first_of site))
variable_forms ls image number l o site DescLea e = refl
variable_forms ls image number l o site DescCall e = refl
variable_forms ls image number l o site form e = not_both e

-- ** one sequence

module _ (ls : List Linking) (known : ℕ → Option Instance) (x : Instance) (l : Linking) (given : IsGiven l)
    (few : length l.objects < 2 ^ 32) (at : at_number ls x.image ≡ Some l)
    (images : (k : ℕ) (m : Linking) → at_number ls k ≡ Some m → IsGiven m × (length m.objects < 2 ^ 32))
    (imports : (o : ℕ) (r : Relocation) (k : ℕ) → binding l o r ≡ Some (Startup k)
    → IsImported ls (symbol_name (object l o) r.symbol) k) where
  -- the table's and the meaning's variable, and whether the sequence is kept
  pub record Names (o : ℕ) (site : Site) (t : Option Target) (v : Variable) (kept : Bool) : Type 0 where
    pub target : target_at ls known x l o site ≡ t
    pub variable : variable_at ls known x l o site ≡ v
    pub kept_is : is_kept (choice l o site) ≡ kept

  abbrev own : SymbolRef → Variable
  own v = defined_in l x.image x.number v

  -- what a sequence names: a variable of the image, one of image k, or none
  abbrev IsHere : ℕ → Site → Type 0
  IsHere o site = (v : SymbolRef) × IsSmall v
      × Names o site (Some (target.Here v (offset l v))) (own v) (not (is_rewriting l))

  pub record IsImport (o : ℕ) (site : Site) : Type 0 where
    pub k : ℕ
    pub bound : binding l o (first_of site) ≡ Some (Startup k)
    pub imported : IsImported ls (symbol_name (object l o) site.symbol) k
    pub small : IsSmall imported.found
    pub names : Names o site (Some (target.Import (symbol_name (object l o) site.symbol)))
        (defined_in imported.image k k imported.found) (not (is_rewriting l))

  abbrev IsNone : ℕ → Site → Type 0
  IsNone o site = Names o site None no_variable true

  module _ (o : ℕ) (site : Site) (there : o < length l.objects) (has : Contains (sites_at l o) site)
      (form : is_of_descriptor site.form ≡ true) where
    variable_is : variable_at ls known x l o site
        ≡ unwrap_or (variable_by ls x.image x.number l o site (binding l o (first_of site))) no_variable
    variable_is = ap (λ v. unwrap_or v no_variable) (variable_forms ls x.image x.number l o site site.form form)

    names_is : (bound : Option Binding) (kept : Bool) → binding l o (first_of site) ≡ bound
        → is_kept (chosen l site.form bound) ≡ kept
        → Names o site (target_by l o site.symbol bound)
        (unwrap_or (variable_by ls x.image x.number l o site bound) no_variable) kept
    unfolding choice
    names_is bound kept e k = record {
      target = ap (target_by l o site.symbol) e;
      variable = variable_is ∙ ap (λ b. unwrap_or (variable_by ls x.image x.number l o site b) no_variable) e;
      kept_is = ap (λ b. is_kept (chosen l site.form b)) e ∙ k;
    }

    symbol_there : site.symbol < symbol_count (object l o)
    symbol_there =
        All-contains (λ (s : Site). s.symbol < symbol_count (object l o)) (sites_at l o) site
        (sites_symbols (object l o) (sites_at l o) (given.are_objects o [] there) (given.are_sites o there)) has

    pub seen : IsHere o site ⊎ (IsImport o site ⊎ IsNone o site)
    seen = of_bound (binding l o (first_of site)) refl
      where
        of_bound : (bound : Option Binding) → binding l o (first_of site) ≡ bound
            → IsHere o site ⊎ (IsImport o site ⊎ IsNone o site)
        of_bound None e = inr (inr (names_is None true e refl))
        of_bound (Some Runtime) e =
            inr (inr (names_is (Some Runtime) true e
            (of_none l site.form (Some Runtime) (taken_runtime site.form form))))
        of_bound (Some (Here v)) e =
            let within = some_is (IsBindingWithin l.objects) (binding l o (first_of site)) (Here v) e
            (binding_within l.objects l.startup o (first_of site) there symbol_there) in
            inl (
              v,
              small_within l v given few within,
              names_is (Some (Here v)) (not (is_rewriting l)) e
                  (of_variable l site.form (Some (Here v)) (taken_here site.form v form)),
            )
        of_bound (Some (Startup k)) e =
            let i = imports o (first_of site) k e in
            let image = images k i.image i.at in
            let within = some_is (IsWithin i.image.objects)
            (definition_of i.image.objects (symbol_name (object l o) site.symbol)) i.found i.defined
            (definition_within i.image.objects (symbol_name (object l o) site.symbol)) in
            let n = names_is (Some (Startup k)) (not (is_rewriting l)) e
            (of_variable l site.form (Some (Startup k)) (taken_startup site.form k form)) in
            let shared : variable_by ls x.image x.number l o site (Some (Startup k))
            ≡ Some (defined_in i.image k k i.found) =
            ap (option_and_then (shared_by (symbol_name (object l o) site.symbol) k)) i.at
            ∙ ap (option_map (defined_in i.image k k)) i.defined in
            inr (inl (record {
              k = k;
              bound = e;
              imported = i;
              small = small_within i.image i.found image.0 image.1 within;
              names = record {
                target = n.target;
                variable = n.variable ∙ ap (λ v. unwrap_or v no_variable) shared;
                kept_is = n.kept_is;
              };
            }))

  -- ** two sequences

  -- they name one variable, and are kept or rewritten alike
  pub record AreAlike (o p : ℕ) (s z : Site) : Type 0 where
    pub target : target_at ls known x l o s ≡ target_at ls known x l p z
    pub variable : variable_at ls known x l o s ≡ variable_at ls known x l p z
    pub kept_is : is_kept (choice l o s) ≡ is_kept (choice l p z)

  alike : (o p : ℕ) (s z : Site) (t : Option Target) (v : Variable) (kept : Bool) → Names o s t v kept
      → Names p z t v kept → AreAlike o p s z
  alike o p s z t v kept a b = record {
    target = a.target ∙ sym b.target;
    variable = a.variable ∙ sym b.variable;
    kept_is = a.kept_is ∙ sym b.kept_is;
  }

  pub one_number : (o p : ℕ) (s z : Site) → AreAlike o p s z → number_for ls known x l o s ≡ number_for ls known x l p z
  one_number o p s z a = rw (a.kept_is, a.target, a.variable) refl

  some_image : (k : ℕ) (m : Linking) → at_number ls k ≡ Some m → 0 < k
  some_image zero m e = absurd (cc)
  some_image (suc k) m e = omega arith

  number_some : (k : ℕ) (v : SymbolRef) → 0 < k → 0 < definition_number k v
  number_some k v some = omega (arith, some)

  module _ (o p : ℕ) (s z : Site)
      (equal : (variable_at ls known x l o s).symbol ≡ (variable_at ls known x l p z).symbol) where
    symbols : (v w : Variable) → variable_at ls known x l o s ≡ v → variable_at ls known x l p z ≡ w
        → v.symbol ≡ w.symbol
    symbols v w a b =
        ap (λ (y : Variable). y.symbol) (sym a) ∙ equal ∙ ap (λ (y : Variable). y.symbol) b

    here_here : IsHere o s → IsHere p z → AreAlike o p s z
    here_here a b =
        let e : definition_number x.image a.0 ≡ definition_number x.image b.0 =
        symbols (own a.0) (own b.0) a.2.variable b.2.variable in
        let own = own_numbers x.image x.image a.0 b.0 a.1.object b.1.object a.1.symbol b.1.symbol e in
        let same : a.0 ≡ b.0 = same_ref a.0 b.0 own.1 own.2 in
        alike o p s z (Some (target.Here b.0 (offset l b.0))) (defined_in l x.image x.number b.0) (not (is_rewriting l))
        (subst (λ (v : SymbolRef). Names o s (Some (target.Here v (offset l v))) (defined_in l x.image x.number v)
        (not (is_rewriting l))) same a.2) b.2

    -- a name that is bound to another image is none that the own image defines
    here_import : (v : SymbolRef) (q : ℕ) (y : Site) (i : IsImport q y) → IsSmall v
        → definition_number x.image v ≡ definition_number i.k i.imported.found → ⊥
    here_import v q y i small e =
        let own = own_numbers x.image i.k v i.imported.found small.object i.small.object small.symbol i.small.symbol e in
        let same : l ≡ i.imported.image =
        same_Some l i.imported.image (sym at ∙ ap (at_number ls) own.0 ∙ i.imported.at) in
        let none = not_own l.objects l.startup q (first_of y) i.k i.bound in
        let some : definition_of l.objects (symbol_name (object l q) y.symbol) ≡ Some i.imported.found =
        ap (λ (m : Linking). definition_of m.objects (symbol_name (object l q) y.symbol)) same ∙ i.imported.defined in
        cc

    import_import : IsImport o s → IsImport p z → AreAlike o p s z
    import_import a b =
        let e : definition_number a.k a.imported.found ≡ definition_number b.k b.imported.found =
        symbols _ _ a.names.variable b.names.variable in
        let own = own_numbers a.k b.k a.imported.found b.imported.found a.small.object b.small.object a.small.symbol
        b.small.symbol e in
        let found : a.imported.found ≡ b.imported.found = same_ref a.imported.found b.imported.found own.1 own.2 in
        let image : a.imported.image ≡ b.imported.image =
        same_Some a.imported.image b.imported.image (sym a.imported.at ∙ ap (at_number ls) own.0 ∙ b.imported.at) in
        let named : symbol_name (object l o) s.symbol ≡ symbol_name (object l p) z.symbol =
        a.imported.named
        ∙ ap (λ (m : Linking). symbol_name (object m a.imported.found.object) a.imported.found.symbol) image
        ∙ ap (λ (v : SymbolRef). symbol_name (object b.imported.image v.object) v.symbol) found
        ∙ sym b.imported.named in
        let variable : defined_in a.imported.image a.k a.k a.imported.found
        ≡ defined_in b.imported.image b.k b.k b.imported.found =
        ap (λ (m : Linking). defined_in m a.k a.k a.imported.found) image
        ∙ ap (λ (k : ℕ). defined_in b.imported.image k k a.imported.found) own.0
        ∙ ap (defined_in b.imported.image b.k b.k) found in
        alike o p s z (Some (target.Import (symbol_name (object l p) z.symbol)))
        (defined_in b.imported.image b.k b.k b.imported.found) (not (is_rewriting l))
        (record {
          target = a.names.target ∙ ap (λ name. Some (target.Import name)) named;
          variable = a.names.variable ∙ variable;
          kept_is = a.names.kept_is;
        })
        b.names

    pub all_alike : IsHere o s ⊎ (IsImport o s ⊎ IsNone o s) → IsHere p z ⊎ (IsImport p z ⊎ IsNone p z)
        → AreAlike o p s z
    all_alike (inl a) (inl b) = here_here a b
    all_alike (inl a) (inr (inl b)) =
        absurd (here_import a.0 p z b a.1 (symbols _ _ a.2.variable b.names.variable))
    all_alike (inl a) (inr (inr b)) =
        let some = number_some x.image a.0 (some_image x.image l at) in
        let none : definition_number x.image a.0 ≡ 0 = symbols _ _ a.2.variable b.variable in
        absurd (omega (arith, some, none))
    all_alike (inr (inl a)) (inl b) =
        absurd (here_import b.0 o s a b.1 (sym (symbols _ _ a.names.variable b.2.variable)))
    all_alike (inr (inl a)) (inr (inl b)) = import_import a b
    all_alike (inr (inl a)) (inr (inr b)) =
        let some = number_some a.k a.imported.found (some_image a.k a.imported.image a.imported.at) in
        let none : definition_number a.k a.imported.found ≡ 0 = symbols _ _ a.names.variable b.variable in
        absurd (omega (arith, some, none))
    all_alike (inr (inr a)) (inl b) =
        let some = number_some x.image b.0 (some_image x.image l at) in
        let none : 0 ≡ definition_number x.image b.0 = symbols _ _ a.variable b.2.variable in
        absurd (omega (arith, some, none))
    all_alike (inr (inr a)) (inr (inl b)) =
        let some = number_some b.k b.imported.found (some_image b.k b.imported.image b.imported.at) in
        let none : 0 ≡ definition_number b.k b.imported.found = symbols _ _ a.variable b.names.variable in
        absurd (omega (arith, some, none))
    all_alike (inr (inr a)) (inr (inr b)) = alike o p s z None no_variable true a b
