-- Rewritten sequences, by what their field holds: the distance of the program's own variable, or how far behind lies a
-- word with the distance of another's.
use Rattle.std.proofs.Common.{◌≡◌, ◌∙◌, ◌+◌, inl, ℕ, pos, negsuc, true, false, List, Some}
use Rattle.std.proofs.Common.{refl, sym, ap, subst}
use Rattle.elf_records.specs.declared.relocation.RelocationKind.TheVariants.{GotTpOff, TpOff32}
use Rattle.got_pairs.specs.Entries.{less}
use Rattle.guest_machine.specs.Use.{plus}
use Rattle.link_core.proofs.TogetherRows.{taken}
use Rattle.link_faults.specs.declared.binding.Binding.TheVariants.{Here, Startup}
use Rattle.link_faults.specs.declared.symbol_ref.SymbolRef.{SymbolRef}
use Rattle.link_needs.specs.Linking.{Linking, binding, block_offset, choice, offset}
use Rattle.link_needs.specs.Needs.{is_kept, target_by}
use Rattle.loaded_bytes.specs.Laws.{images_of}
use Rattle.loaded_modules.specs.declared.instance.Instance.{Instance}
use Rattle.loaded_words.specs.Words.{variable_of}
use Rattle.relax_sites.specs.declared.choices.Choice.{Choice}
use Rattle.relax_sites.specs.declared.rows.NewField.{NewField}
use Rattle.relax_sites.specs.Rows.{new_field}
use Rattle.sequence_forms.specs.declared.forms.Form.{Form}
use Rattle.sequence_forms.specs.declared.places.Site.{Site}
use Rattle.sequence_forms.specs.Forms.{row}
use Rattle.sequence_match.specs.Sites.{first_of}
use Rattle.thread_blocks.specs.JobLoads.{job_loads}
use Rattle.tied_meaning.specs.Numbers.{Setting}
use Rattle.tied_meaning.specs.Sites.{AsksForOwnBlock, HasWord, IsDistance, Stands, WrittenAs}
use Rattle.tls_symbols.specs.Bindings.{may_import}
use Rattle.whole_meaning.specs.Code.{Variable, defined_in, sequence_with}
use Rattle.whole_meaning.specs.Spots.{bias_of}
use Rattle.tied_sites.proofs.Chosen.{choice_is}
use Rattle.tied_sites.proofs.Pairs.{distance_at, distance_word}
use Rattle.tied_sites.proofs.Places.{IsHere}
use Rattle.tied_sites.proofs.Standing.{IsRelied, Name, inside, name, own_distance, own_early, stands_written}
use Rattle.tied_sites.proofs.Written.{distance_code, near_block, word_code, word_entry, word_leads, word_value}

module _ (g : Setting) (ls : List Linking) (l : Linking) (x : Instance) (is : IsRelied g ls l x) (o address : ℕ)
    (site : Site) (place : ℕ) (here : IsHere l (bias_of l.kind x.number) o address site place)
    (off : is_kept (choice l o site) ≡ false) (form : Form) (is_form : site.form ≡ form) (c : Choice) (f : NewField)
    (field : new_field form c ≡ Some f) where
  -- ** the program's own variable

  module _ (found : SymbolRef) (bound : binding l o (first_of site) ≡ Some (Here found))
      (takes : taken form (Some (Here found)) ≡ c) where
    own_chosen : choice l o site ≡ c
    own_chosen = choice_is l o site off (Some (Here found)) bound form is_form ∙ takes

    own_new : new_field site.form (choice l o site) ≡ Some f
    own_new = (λ i. new_field (is_form i) (own_chosen i)) ∙ field

    abbrev own : Variable
    own = defined_in l x.image x.number found

    pub own_written : f.kind ≡ TpOff32 → f.addend ≡ pos 0
        → AsksForOwnBlock g (job_loads (images_of ls)) x place
        (sequence_with ls x.image x.number place site (defined_in l x.image x.number found)) form
        → ((n : ℕ) → n ≡ less (offset l found) (block_offset l)
        → IsDistance g (sequence_with ls x.image x.number place site (defined_in l x.image x.number found)) n
        → WrittenAs g (job_loads (images_of ls)) x place
        (sequence_with ls x.image x.number place site (defined_in l x.image x.number found)) form c site.reg n)
        → Stands g (job_loads (images_of ls)) x place
        (sequence_with ls x.image x.number place site (defined_in l x.image x.number found))
    own_written kind addend base written =
        let v = defined_in l x.image x.number found in
        let number = less (offset l found) (block_offset l) in
        let near = near_block ls l x is.of is.counted o address site place here off f own_new in
        stands_written g ls l x is o address site place here v form c number is_form off own_chosen (inl refl)
        (own_early g ls l x is o address site place here off found bound) base
        (distance_code ls l x is.of is.counted o address site place here off f own_new found bound
        (inside g ls l x is o address site place here found bound) kind addend)
        (written number refl (own_distance g ls l x is o address site place here off found bound
        (sequence_with ls x.image x.number place site v) refl refl near))

  -- ** a variable of what started with the program

  module _ (k : ℕ) (bound : binding l o (first_of site) ≡ Some (Startup k))
      (takes : taken form (Some (Startup k)) ≡ c) where
    abbrev other : Name g ls l x is o address site place here (Some (Startup k))
    other = name g ls l x is o address site place here (Some (Startup k)) bound

    other_chosen : choice l o site ≡ c
    other_chosen = choice_is l o site off (Some (Startup k)) bound form is_form ∙ takes

    other_new : new_field site.form (choice l o site) ≡ Some f
    other_new = (λ i. new_field (is_form i) (other_chosen i)) ∙ field

    other_target : target_by l o site.symbol (binding l o (first_of site)) ≡ Some other.t
    other_target = ap (target_by l o site.symbol) bound ∙ other.target_is

    not_here : (found : SymbolRef) → Some (Startup k) ≡ Some (Here found) → (distance : ℕ) × (x.offset ≡ Some distance)
    not_here found e = absurd (cc)

    pub other_written : f.kind ≡ GotTpOff → f.addend ≡ negsuc 3 → may_import (row site.form).first ≡ true
        → AsksForOwnBlock g (job_loads (images_of ls)) x place
        (sequence_with ls x.image x.number place site other.v) form
        → ((n word : ℕ)
        → word ≡ less (variable_of (images_of ls) l.kind x other.t).offset (variable_of
        (images_of ls) l.kind x other.t).distance
        → HasWord (job_loads (images_of ls)) x (plus (place + site.len) n) word
        → IsDistance g (sequence_with ls x.image x.number place site other.v) word
        → WrittenAs g (job_loads (images_of ls)) x place
        (sequence_with ls x.image x.number place site other.v) form c site.reg
        n)
        → Stands g (job_loads (images_of ls)) x place (sequence_with ls x.image x.number place site other.v)
    other_written kind addend imports base written =
        let s = sequence_with ls x.image x.number place site other.v in
        let word = less (variable_of (images_of ls) l.kind x other.t).offset
        (variable_of (images_of ls) l.kind x other.t).distance in
        let e = word_entry ls l x is.of is.counted o address site place here off f other_new other.t other_target kind
        addend
        imports in
        let number = word_value ls l x is.of is.counted o address site place here off f other_new other.t other_target
        kind
        addend imports in
        let leads = word_leads ls l x is.of is.counted o address site place here off f other_new other.t other_target
        kind
        addend imports in
        stands_written g ls l x is o address site place here other.v form c number is_form off other_chosen
        other.of.asked
        (other.early k refl) base
        (word_code ls l x is.of is.counted o address site place here off f other_new other.t other_target kind addend
        imports)
        (written number word refl
        (subst (λ a. HasWord (job_loads (images_of ls)) x a word) (sym leads)
        (distance_word g ls l x is.of is.words s other.v refl refl other.t e))
        (distance_at g ls l x is.of is.words s other.v refl refl other.t other.of
        (other.below is.knows (sym bound) not_here)))
