-- The variable that a site means, and the one that its entry is filled for: the same one, told in two ways.
use Rattle.std.proofs.Common.{◌≡◌, ◌∙◌, ◌<◌, ◌≤◌, ◌⊎◌, ◌^◌, inl, inr, ℕ, List, Option}
use Rattle.std.proofs.Common.{Some, None}
use Rattle.std.proofs.Common.{refl, sym, ap, subst, arith}
use Rattle.std.specs.Prelude.{IfSome, option_and_then, option_map, unwrap_or}
use Rattle.std.proofs.lemmas.Bool.{cases_lt}
use Rattle.std.proofs.lemmas.Option.{same_Some}
use Rattle.elf_object.specs.declared.relocation.Relocation.{Relocation}
use Rattle.elf_object.specs.Lent.{symbol_name}
use Rattle.got_pairs.specs.declared.need.Target.{Target}
use Rattle.got_pairs.specs.declared.need.Target.TheVariants as target
use Rattle.link_core.proofs.TogetherRows.{IsVariable}
use Rattle.link_faults.specs.declared.binding.Binding.{Binding}
use Rattle.link_faults.specs.declared.binding.Binding.TheVariants.{Here, Startup, Runtime}
use Rattle.link_faults.specs.declared.symbol_ref.SymbolRef.{SymbolRef}
use Rattle.link_needs.specs.Linking.{Linking, binding, object, offset}
use Rattle.link_needs.specs.Needs.{target_by}
use Rattle.loaded_bytes.specs.Laws.{images_of}
use Rattle.loaded_modules.specs.declared.instance.Instance.{Instance}
use Rattle.loaded_modules.specs.Images.{static_offset}
use Rattle.loaded_modules.specs.Loader.{export_of}
use Rattle.loaded_words.specs.Words.{exported, variable_of}
use Rattle.module_table.specs.Past.{startup_count}
use Rattle.sequence_forms.specs.declared.places.Site.{Site}
use Rattle.sequence_match.specs.Sites.{first_of}
use Rattle.thread_blocks.specs.JobLoads.{job_loads}
use Rattle.tied_meaning.specs.Numbers.{Setting}
use Rattle.whole_meaning.specs.Code.{Variable, defined_in, shared_by, variable_by}
use Rattle.tied_sites.specs.Instances.{IsCounted, IsShared, Knows}

-- ** the variable

module _ (g : Setting) (ls : List Linking) (l : Linking) (x : Instance) where
  -- the number under which the run time is asked for an instance
  abbrev pub IsIdOf : ℕ → ℕ → Type 0
  IsIdOf number id =
      ((0 < number) × ((number ≤ startup_count (job_loads (images_of ls)).infos) × (id ≡ number)))
      ⊎ ((number ≡ x.number) × ((id ≡ x.id) × (startup_count (job_loads (images_of ls)).infos < x.number)))

  -- its instance, and how far it is in that one's blocks
  pub record IsVariableOf (t : Target) (v : Variable) : Type 0 where
    pub asked : (v.target ≡ x.number)
        ⊎ ((0 < v.target) × (v.target ≤ startup_count (job_loads (images_of ls)).infos))
    pub id : IsIdOf v.target (variable_of (images_of ls) l.kind x t).id
    pub low : (variable_of (images_of ls) l.kind x t).id < 2 ^ 32
    pub offset : (variable_of (images_of ls) l.kind x t).offset ≡ v.offset
    pub small : v.offset < 2 ^ 30

  -- where its block begins, which is known where it is below the thread pointer
  pub record LiesBelow (t : Target) (v : Variable) : Type 0 where
    pub near : (variable_of (images_of ls) l.kind x t).distance < 2 ^ 28
    pub each : (y : Instance) → g.known v.target ≡ Some y
        → y.offset ≡ Some (variable_of (images_of ls) l.kind x t).distance

  pub own_id : IsCounted ls l x → IsIdOf x.number x.id
  own_id counted =
      elim (cases_lt (startup_count (job_loads (images_of ls)).infos) x.number) [
        | inl late ↦ inr (refl, (refl, late))
        | inr early ↦ inl (counted.some, (early, counted.startup early))
      ]

  module _ (o : ℕ) (site : Site) (counted : IsCounted ls l x)
      (shared : (r : Relocation) (k : ℕ) → binding l o r ≡ Some (Startup k)
      → IsShared ls (symbol_name (object l o) r.symbol) k)
      (inside : (found : SymbolRef) → binding l o (first_of site) ≡ Some (Here found) → offset l found ≤ 2 ^ 20) where
    pub record IsNamed (bound : Option Binding) : Type 0 where
      pub t : Target
      pub v : Variable
      pub target_is : target_by l o site.symbol bound ≡ Some t
      pub variable_is : variable_by ls x.image x.number l o site bound ≡ Some v
      pub of : IsVariableOf t v
      pub early : (k : ℕ) → bound ≡ Some (Startup k) → v.target ≤ startup_count (job_loads (images_of ls)).infos
      pub below : Knows g ls l x → (bound ≡ binding l o (first_of site))
          → ((found : SymbolRef) → bound ≡ Some (Here found) → (distance : ℕ) × (x.offset ≡ Some distance))
          → LiesBelow t v

    own_distance : (distance : ℕ) → x.offset ≡ Some distance → Knows g ls l x → (found : SymbolRef)
        → LiesBelow (target.Here found (offset l found)) (defined_in l x.image x.number found)
    own_distance distance at knows found =
        let near : distance < 2 ^ 28 = subst (λ d. IfSome d (λ n. n < 2 ^ 28)) at counted.near in
        let is : unwrap_or x.offset 0 ≡ distance = ap (λ d. unwrap_or d 0) at in
        record {
          near = omega (arith, near, is);
          each = λ y known.
              let same : x ≡ y = same_Some x y (sym knows.own ∙ known) in
              ap (λ (z : Instance). z.offset) (sym same) ∙ at ∙ ap Some (sym is);
        }

    here_named : (found : SymbolRef) → binding l o (first_of site) ≡ Some (Here found) → IsNamed (Some (Here found))
    here_named found e =
        let few = inside found e in
        record {
          t = target.Here found (offset l found);
          v = defined_in l x.image x.number found;
          target_is = refl;
          variable_is = refl;
          of = record {
            asked = inl refl;
            id = own_id counted;
            low = counted.low;
            offset = refl;
            small = omega (arith, few);
          };
          early = λ k other. absurd (cc);
          below = λ knows same fixed.
              let at = fixed found refl in own_distance at.0 at.1 knows found;
        }

    startup_named : (k : ℕ) → binding l o (first_of site) ≡ Some (Startup k) → IsNamed (Some (Startup k))
    startup_named k e =
        let name = symbol_name (object l o) site.symbol in
        let is = shared (first_of site) k e in
        let export = ap (exported (images_of ls)) is.export in
        record {
          t = target.Import (symbol_name (object l o) site.symbol);
          v = defined_in is.link k k is.found;
          target_is = refl;
          variable_is = ap (option_and_then (shared_by name k)) is.at
              ∙ ap (option_map (defined_in is.link k k)) is.defined;
          of = record {
            asked = inr (is.some, is.early);
            id = inl (is.some, (is.early, ap (λ v. v.id) export));
            low = (let id : (exported (images_of ls) (export_of (images_of ls) name)).id ≡ k = ap (λ v. v.id) export in
                omega (arith, id, is.low));
            offset = ap (λ v. v.offset) export;
            small = is.small;
          };
          early = λ j same. is.early;
          below = λ knows same fixed. record {
            near = (let d : (exported (images_of ls) (export_of (images_of ls) name)).distance
                ≡ static_offset (images_of ls) k = ap (λ v. v.distance) export in
                let near = knows.near k is.some is.early in omega (arith, d, near));
            each = λ y known.
                let there = knows.startup k is.some is.early in
                let same : there.0 ≡ y = same_Some there.0 y (sym there.1.0 ∙ known) in
                ap (λ (z : Instance). z.offset) (sym same) ∙ there.1.1 ∙ ap (λ v. Some v.distance) (sym export);
          };
        }

    pub named : (bound : Option Binding) → binding l o (first_of site) ≡ bound → IsVariable bound → IsNamed bound
    named None e is = absurd is
    named (Some (Here found)) e is = here_named found e
    named (Some (Startup k)) e is = startup_named k e
    named (Some Runtime) e is = absurd is
