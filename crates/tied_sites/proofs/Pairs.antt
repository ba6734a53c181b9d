-- The entries of a variable as an instance has them: what the run time is asked by, and a distance.
use Rattle.std.proofs.Common.{◌≡◌, ◌∙◌, ◌+◌, ◌*◌, ◌%◌, ◌^◌, ℕ, List, Some, refl, sym, subst, arith}
use Rattle.std.specs.Prelude.{slice_get}
use Rattle.got_pairs.specs.declared.need.Need.{Need}
use Rattle.got_pairs.specs.declared.need.Need.TheVariants.{ModulePair, SymbolPair, Descriptor, SymbolWord}
use Rattle.got_pairs.specs.declared.need.Target.{Target}
use Rattle.got_pairs.specs.Entries.{less}
use Rattle.got_pairs.specs.Needs.{start_of}
use Rattle.link_needs.specs.Laws.{HasEntry}
use Rattle.link_needs.specs.Linking.{Linking}
use Rattle.link_needs.specs.Needs.{entries, got_start}
use Rattle.loaded_bytes.specs.Laws.{IsInstanceOf, images_of}
use Rattle.loaded_modules.specs.declared.instance.Instance.{Instance}
use Rattle.loaded_words.proofs.Tables.{tables_hold}
use Rattle.loaded_words.specs.Words.{loaded_words, variable_of}
use Rattle.thread_blocks.specs.JobLoads.{job_loads}
use Rattle.tied_meaning.specs.Numbers.{Setting}
use Rattle.tied_meaning.specs.Sites.{HasDescriptor, HasPair, HasWord, IsDistance}
use Rattle.whole_meaning.specs.Code.{Variable}
use Rattle.whole_meaning.specs.declared.sequences.Sequence.{Sequence}
use Rattle.whole_meaning.specs.Spots.{bias_of}
use Rattle.tied_sites.proofs.Distances.{distance_is}
use Rattle.tied_sites.proofs.Named.{IsIdOf, IsVariableOf, LiesBelow, own_id}
use Rattle.tied_sites.specs.Instances.{IsCounted}

-- each word of each entry is that of the table
abbrev pub AreWords : List Linking → Linking → Instance → Type 0
AreWords ls l x = (need : Need) (at k word : ℕ) → start_of (entries l) need ≡ Some at
    → slice_get (loaded_words (images_of ls) l.kind x need) k ≡ Some word
    → HasWord (job_loads (images_of ls)) x (got_start l + at + 8 * k + bias_of l.kind x.number) word

module _ (g : Setting) (ls : List Linking) (l : Linking) (x : Instance) (is : IsInstanceOf ls l x)
    (words : AreWords ls l x) where
  -- the first word of an entry, and the second
  pub first_word : (need : Need) (e : HasEntry l need) (word : ℕ)
      → slice_get (loaded_words (images_of ls) l.kind x need) 0 ≡ Some word
      → HasWord (job_loads (images_of ls)) x (got_start l + e.at + bias_of l.kind x.number) word
  first_word need e word at =
      let same : got_start l + e.at + 8 * 0 + bias_of l.kind x.number ≡ got_start l + e.at + bias_of l.kind x.number =
      omega arith in
      subst (λ a. HasWord (job_loads (images_of ls)) x a word) same (words need e.at 0 word e.starts at)

  pub second_word : (need : Need) (e : HasEntry l need) (word : ℕ)
      → slice_get (loaded_words (images_of ls) l.kind x need) 1 ≡ Some word
      → HasWord (job_loads (images_of ls)) x (got_start l + e.at + bias_of l.kind x.number + 8) word
  second_word need e word at =
      let same : got_start l + e.at + 8 * 1 + bias_of l.kind x.number ≡ got_start l + e.at + bias_of l.kind x.number +
      8 =
      omega arith in
      subst (λ a. HasWord (job_loads (images_of ls)) x a word) same (words need e.at 1 word e.starts at)

  -- a sequence that asks for this variable
  module _ (s : Sequence) (v : Variable) (target : s.target ≡ v.target) (offset : s.offset ≡ v.offset) where
    of_target : (id : ℕ) → IsIdOf g ls l x v.target id → IsIdOf g ls l x s.target id
    of_target id is_id = subst (λ n. IsIdOf g ls l x n id) (sym target) is_id

    pub pair_is : (t : Target) → IsVariableOf g ls l x t v → (e : HasEntry l (SymbolPair t))
        → HasPair (job_loads (images_of ls)) x s (got_start l + e.at + bias_of l.kind x.number)
    pair_is t of e =
        let low = of.low in
        let small = of.small in
        let same : (variable_of (images_of ls) l.kind x t).offset ≡ s.offset % 2 ^ 64 =
        (let both = of.offset ∙ sym offset in omega (arith, both, offset, small)) in
        record {
          table = tables_hold ls l x (SymbolPair t) e.at is e.starts refl;
          id = (variable_of (images_of ls) l.kind x t).id;
          names = of_target (variable_of (images_of ls) l.kind x t).id of.id;
          low = omega (arith, low);
          first = first_word (SymbolPair t) e (variable_of (images_of ls) l.kind x t).id refl;
          second = subst (λ w. HasWord (job_loads (images_of ls)) x
              (got_start l + e.at + bias_of l.kind x.number + 8) w) same
              (second_word (SymbolPair t) e (variable_of (images_of ls) l.kind x t).offset refl);
        }

    -- the block of the code's own instance
    pub module_pair_is : IsCounted ls l x → v.target ≡ x.number → v.offset ≡ 0 → (e : HasEntry l ModulePair)
        → HasPair (job_loads (images_of ls)) x s (got_start l + e.at + bias_of l.kind x.number)
    module_pair_is counted own none e =
        let low = counted.low in
        let same : 0 ≡ s.offset % 2 ^ 64 = (let zero = offset ∙ none in omega (arith, zero)) in
        record {
          table = tables_hold ls l x ModulePair e.at is e.starts refl;
          id = x.id;
          names = of_target x.id (subst (λ n. IsIdOf g ls l x n x.id) (sym own) (own_id g ls l x counted));
          low = omega (arith, low);
          first = first_word ModulePair e x.id refl;
          second = subst (λ w. HasWord (job_loads (images_of ls)) x
              (got_start l + e.at + bias_of l.kind x.number + 8) w) same (second_word ModulePair e 0 refl);
        }

    pub descriptor_is : (t : Target) → IsVariableOf g ls l x t v → (e : HasEntry l (Descriptor t))
        → HasDescriptor (job_loads (images_of ls)) x s (got_start l + e.at + bias_of l.kind x.number)
    descriptor_is t of e =
        let small = of.small in
        let id = (variable_of (images_of ls) l.kind x t).id in
        let same : (variable_of (images_of ls) l.kind x t).offset ≡ s.offset = of.offset ∙ sym offset in
        record {
          table = tables_hold ls l x (Descriptor t) e.at is e.starts refl;
          id = (variable_of (images_of ls) l.kind x t).id;
          names = of_target (variable_of (images_of ls) l.kind x t).id of.id;
          small = (of.low, (omega (arith, offset, small)));
          first = first_word (Descriptor t) e 0x1800 refl;
          second = subst (λ n. HasWord (job_loads (images_of ls)) x (got_start l + e.at + bias_of l.kind x.number + 8)
              ((variable_of (images_of ls) l.kind x t).id * 2 ^ 32 + n)) same
              (second_word (Descriptor t) e _ refl);
        }

    -- a word that is the variable's distance
    pub distance_at : (t : Target) → IsVariableOf g ls l x t v → LiesBelow g ls l x t v
        → IsDistance g s (less (variable_of (images_of ls) l.kind x t).offset (variable_of
        (images_of ls) l.kind x t).distance)
    distance_at t of below =
        let small = of.small in
        subst (λ n. IsDistance g s (less n (variable_of (images_of ls) l.kind x t).distance)) (offset ∙ sym of.offset)
        (distance_is g s (variable_of (images_of ls) l.kind x t).distance below.near (omega (arith, offset, small))
        (λ y known. below.each y (subst (λ n. g.known n ≡ Some y) target known)))

    pub distance_word : (t : Target) → (e : HasEntry l (SymbolWord t))
        → HasWord (job_loads (images_of ls)) x (got_start l + e.at + bias_of l.kind x.number)
        (less (variable_of (images_of ls) l.kind x t).offset (variable_of (images_of ls) l.kind x t).distance)
    distance_word t e = first_word (SymbolWord t) e _ refl
