-- Kept sequences that call the run time: a pair, and the stub or the run time's word.
use Rattle.std.proofs.Common.{◌≡◌, ◌+◌, ◌<◌, ◌^◌, ℕ, true, List, Some, refl, sym, subst}
use Rattle.got_pairs.specs.declared.need.Need.{Need}
use Rattle.got_pairs.specs.declared.need.Need.TheVariants.{RuntimeWord}
use Rattle.guest_machine.specs.Use.{plus}
use Rattle.link_needs.specs.Laws.{HasEntry}
use Rattle.link_needs.specs.Linking.{Linking, choice}
use Rattle.link_needs.specs.Needs.{calls_stub, got_start, is_kept, relocation_need, stub_start}
use Rattle.loaded_bytes.specs.Laws.{IsInstanceOf, images_of}
use Rattle.loaded_modules.specs.declared.instance.Instance.{Instance}
use Rattle.sequence_forms.specs.declared.forms.Call.TheVariants.{Direct, Indirect}
use Rattle.sequence_forms.specs.declared.forms.Form.{Form}
use Rattle.sequence_forms.specs.declared.forms.Form.TheVariants.{Gd, Ld, GdInd, LdInd}
use Rattle.sequence_forms.specs.declared.forms.Second.{Second}
use Rattle.sequence_forms.specs.declared.places.Site.{Site}
use Rattle.sequence_forms.specs.Forms.{row}
use Rattle.sequence_match.specs.Sites.{first_of}
use Rattle.sequence_laws.specs.Instructions.{kept_instructions}
use Rattle.thread_blocks.specs.JobLoads.{job_loads}
use Rattle.tied_meaning.specs.Numbers.{Setting}
use Rattle.tied_meaning.specs.Sites.{CallsStub, CallsWord, HasCode, HasPair, HasWord, first_length}
use Rattle.whole_meaning.specs.Code.{Variable, sequence_with}
use Rattle.whole_meaning.specs.Spots.{bias_of}
use Rattle.tied_sites.proofs.Cells.{kept_stands}
use Rattle.tied_sites.proofs.Firsts.{HasField, first_leads, first_number, first_value, stub_leads, stub_number}
use Rattle.tied_sites.proofs.Firsts.{stub_value}
use Rattle.tied_sites.proofs.Firsts.{word_leads, word_number, word_value}
use Rattle.tied_sites.proofs.Pairs.{AreWords, first_word}
use Rattle.tied_sites.proofs.Places.{IsHere}
use Rattle.loaded_words.specs.Laws.{IsStub}

-- ** the two kinds of call

direct : (form : Form) → calls_stub form ≡ true
    → (second : Second) × (((row form).second ≡ Some second) × (second.call ≡ Direct))
unfolding row
direct Gd e = (_, (refl, refl))
direct Ld e = (_, (refl, refl))
direct form e = absurd (cc)

-- the forms that call through the run time's word
abbrev pub CallsThrough : Form → Type 0
CallsThrough GdInd = Unit {0}
CallsThrough LdInd = Unit {0}
CallsThrough form = ⊥

indirect : (form : Form) → CallsThrough form
    → (second : Second) × (((row form).second ≡ Some second) × (second.call ≡ Indirect))
unfolding row
indirect GdInd e = (_, (refl, refl))
indirect LdInd e = (_, (refl, refl))
indirect form e = absurd e

-- they name no register
stub_register : (form : Form) (reg first second : ℕ) → calls_stub form ≡ true
    → kept_instructions form reg first second ≡ kept_instructions form 0 first second
stub_register Gd reg first second e = refl
stub_register Ld reg first second e = refl
stub_register form reg first second e = absurd (cc)

word_register : (form : Form) (reg first second : ℕ) → CallsThrough form
    → kept_instructions form reg first second ≡ kept_instructions form 0 first second
word_register GdInd reg first second e = refl
word_register LdInd reg first second e = refl
word_register form reg first second e = absurd e

module _ (g : Setting) (ls : List Linking) (l : Linking) (x : Instance) (is : IsInstanceOf ls l x)
    (words : AreWords ls l x) (few : x.number < 2 ^ 12) (o address : ℕ) (site : Site) (place : ℕ)
    (here : IsHere l (bias_of l.kind x.number) o address site place) (kept : is_kept (choice l o site) ≡ true)
    (has_field : HasField site.form) (need : Need) (e : HasEntry l need)
    (needed : relocation_need l o (first_of site) ≡ Some need) (v : Variable)
    (pair : HasPair (job_loads (images_of ls)) x (sequence_with ls x.image x.number place site v)
    (got_start l + e.at + bias_of l.kind x.number)) where
  abbrev first : ℕ
  first = first_value ls l x is o address site place here kept few has_field need e needed

  pair_there : HasPair (job_loads (images_of ls)) x (sequence_with ls x.image x.number place site v)
      (plus (place + first_length site.form)
      (first_value ls l x is o address site place here kept few has_field need e needed))
  pair_there =
      subst (HasPair (job_loads (images_of ls)) x (sequence_with ls x.image x.number place site v))
      (sym (first_leads ls l x is o address site place here kept few has_field need e needed)) pair

  pub stub_called : calls_stub site.form ≡ true
      → IsStub l (bias_of l.kind x.number) ((job_loads (images_of ls)).fixed x)
      → (n : ℕ) × ((m : ℕ) × CallsStub g (job_loads (images_of ls)) x place
      (sequence_with ls x.image x.number place site v) n m)
  stub_called call stub =
      let way = direct site.form call in
      let n = first_value ls l x is o address site place here kept few has_field need e needed in
      let m = stub_value ls l x is o address site place here kept few way.0 way.1.0 in
      let word : HasEntry l RuntimeWord = record { at = stub.at; starts = stub.starts } in
      let code = kept_stands ls l x is o address site place here kept n m
      (first_number ls l x is o address site place here kept few has_field need e needed)
      (stub_number ls l x is o address site place here kept few way.0 way.1.0 way.1.1) in (
        n,
        (
          m,
          record {
            code = subst (HasCode (job_loads (images_of ls)) x place) (stub_register site.form site.reg n m call) code;
            pair = pair_there;
            stub = stub_start l + bias_of l.kind x.number;
            far = stub.far;
            goes = stub_leads ls l x is o address site place here kept few way.0 way.1.0 way.1.1;
            jumps = record { bytes = stub.bytes; read = stub.read; there = stub.there };
            word = subst (λ a. HasWord (job_loads (images_of ls)) x a 0x1000) (sym stub.goes)
                (first_word g ls l x is words RuntimeWord word 0x1000 refl);
          },
        ),
      )

  pub word_called : CallsThrough site.form → HasEntry l RuntimeWord
      → (n : ℕ) × ((m : ℕ) × CallsWord g (job_loads (images_of ls)) x place
      (sequence_with ls x.image x.number place site v) n m)
  word_called call word =
      let way = indirect site.form call in
      let n = first_value ls l x is o address site place here kept few has_field need e needed in
      let m = word_value ls l x is o address site place here kept few way.0 way.1.0 word way.1.1 in
      let code = kept_stands ls l x is o address site place here kept n m
      (first_number ls l x is o address site place here kept few has_field need e needed)
      (word_number ls l x is o address site place here kept few way.0 way.1.0 word way.1.1) in (
        n,
        (
          m,
          record {
            code = subst (HasCode (job_loads (images_of ls)) x place) (word_register site.form site.reg n m call) code;
            pair = pair_there;
            word = subst (λ a. HasWord (job_loads (images_of ls)) x a 0x1000)
                (sym (word_leads ls l x is o address site place here kept few way.0 way.1.0 word way.1.1))
                (first_word g ls l x is words RuntimeWord word 0x1000 refl);
          },
        ),
      )
