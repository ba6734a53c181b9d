-- A form's bytes are the parts of a spelling.
use Rattle.std.proofs.Common.{◌≡◌, ℕ, ◌/◌, ◌%◌, ◌≤◌, Bool, true, false, eqb, List, [], ◌∷◌, ◌++◌, length, Option, Some}
use Rattle.std.proofs.Common.{None, refl, sym, ap, subst, ◌∙◌, arith, length-append}
use Rattle.std.specs.Prelude.{slice_index, IfSome}
use Rattle.std.specs.Option.{option_map, option_to_list}
use Rattle.std.specs.List.{list_all}
use Rattle.amd64_subset.specs.declared.instr.Instr.{Instr}
use Rattle.amd64_subset.specs.declared.prefix.Rex.{Rex}
use Rattle.amd64_subset.specs.declared.prefix.Prefixes.{Prefixes}
use Rattle.amd64_subset.specs.declared.row.Row.{Row}
use Rattle.amd64_subset.specs.declared.meaning.Body.{Body}
use Rattle.amd64_encoder.specs.declared.form.Fields.{Fields}
use Rattle.amd64_encoder.specs.declared.form.Fields.TheVariants as fields
use Rattle.amd64_encoder.specs.declared.form.Form.{Form}
use Rattle.amd64_subset.specs.Prefix.{rex_of, no_bits, bits_of}
use Rattle.amd64_subset.specs.Row.{takes, action_of}
use Rattle.amd64_subset.specs.Selectors.{allowed}
use Rattle.amd64_subset.specs.Spelling.{AreMarks, prefixes_of, named, HasBody, HasParts}
use Rattle.amd64_encoder.specs.Writing.{has_segment, rex_bits, rex_byte, when, rex_in, mark_in, selectors_in}
use Rattle.amd64_encoder.specs.Writing.{selector_bytes, opcode_bytes, number_bytes, form_bytes}
use Rattle.amd64_encoder.specs.Canonical.{AreAmong, bits_read, AsksForRex, HasNoRedundant}
use Rattle.amd64_encoder.proofs.Digits.{bits, rex_back, rex_is_rex, is_needed, needed_bits}

abbrev pub segment_in : Fields → Bool
segment_in (fields.Selected field operand) = has_segment operand
segment_in other = false

-- the prefixes of a form
abbrev pub prefixes_in : Form → Prefixes
prefixes_in form = record {
  thread_pointer = segment_in form.fields;
  operand_size = false;
  code_segment = false;
  rex = option_map rex_of (rex_in form);
}

pub bits_again : (form : Form) → bits_of (prefixes_in form) ≡ rex_bits form
unfolding rex_in
bits_again form = needed_bits form.low_byte (rex_bits form).wide (rex_bits form).register (rex_bits form).index
    (rex_bits form).base

-- the bytes of the prefixes before REX
pub record AreIts (fields : Fields) (marks : List ℕ) : Type 0 where
  pub are_marks : AreMarks marks
  pub only_fs : list_all (λ byte. eqb byte 0x64) marks ≡ true
  pub is : (rex : Option ℕ)
      → prefixes_of marks rex
      ≡ record {
        thread_pointer = segment_in fields;
        operand_size = false;
        code_segment = false;
        rex = option_map rex_of rex;
      }
  pub few : length marks ≤ 1

pub marks_are : (fields : Fields) → AreIts fields (option_to_list (mark_in fields))
unfolding mark_in
marks_are fields.Bare = record { are_marks = (refl, omega arith); only_fs = refl; is = λ rex. refl; few = omega arith }
marks_are (fields.Low r) =
    record { are_marks = (refl, omega arith); only_fs = refl; is = λ rex. refl; few = omega arith }
marks_are (fields.Selected f o) = go (has_segment o) refl
  where
    go : (b : Bool) → has_segment o ≡ b → AreIts (fields.Selected f o) (option_to_list (when (has_segment o) 0x64))
    go true e = rw (e) (record
        { are_marks = (refl, omega arith); only_fs = refl; is = λ rex. rw (e) refl; few = omega arith })
    go false e = rw (e) (record
        { are_marks = (refl, omega arith); only_fs = refl; is = λ rex. rw (e) refl; few = omega arith })

-- A form's row, and what stands behind the opcode.
pub record IsBuilt (form : Form) (d : ℕ) (instr : Instr) : Type 0 where
  pub row : Row
  pub rest : List ℕ
  pub body : Body
  pub row-is : named (rex_bits form) (opcode_bytes form) ≡ Some row
  pub takes : takes row (prefixes_in form) ≡ true
  pub rest-is : selector_bytes (selectors_in form.fields d) d ++ number_bytes form.size form.number ≡ rest
  pub has_body : HasBody (prefixes_in form) row rest body
  pub instr-is : body.instr ≡ instr
  pub among : AreAmong (rex_bits form) (bits_read row rest)
  pub asks : form.low_byte ≡ true → rex_bits form ≡ no_bits → IfSome (action_of row ((slice_index rest 0 / 8) % 8))
      (λ action. allowed action
      (record { thread_pointer = segment_in form.fields; operand_size = false; code_segment = false; rex = None })
      (slice_index rest 0) ≡ false)
  pub short : length rest ≤ 11

-- ---- the whole

-- the bytes of a built form have these parts
pub record HasSpelling (form : Form) (d : ℕ) (instr : Instr) : Type 0 where
  pub body : Body
  pub parts : HasParts (form_bytes form d) body
  pub instr-is : body.instr ≡ instr
  pub no_redundant : HasNoRedundant (form_bytes form d) body parts
  pub short : length (form_bytes form d) ≤ 15
  pub row-is : named (rex_bits form) (opcode_bytes form) ≡ Some parts.row

rex_needed : (low w r x b : Bool) (all : Rex) (Asks : Type 0) → AreAmong (bits w r x b) all
    → (low ≡ true → bits w r x b ≡ no_bits → Asks)
    → IfSome (when (is_needed low w r x b) (rex_byte (bits w r x b)))
    (λ byte. AreAmong (rex_of byte) all × (rex_of byte ≡ no_bits → Asks))
rex_needed low w r x b all Asks among asks = go (is_needed low w r x b) refl
  where
    low_is : (l : Bool) → is_needed l w r x b ≡ true → bits w r x b ≡ no_bits → l ≡ true
    low_is true e n = refl
    low_is false e n =
        let ew = ap (λ (y : Rex). y.wide) n in
        let er = ap (λ (y : Rex). y.register) n in
        let ex = ap (λ (y : Rex). y.index) n in
        let eb = ap (λ (y : Rex). y.base) n in
        absurd (let f : is_needed false w r x b ≡ false = rw (ew, er, ex, eb) refl in cc)

    go : (c : Bool) → is_needed low w r x b ≡ c
        → IfSome (when c (rex_byte (bits w r x b)))
        (λ byte. AreAmong (rex_of byte) all × (rex_of byte ≡ no_bits → Asks))
    go false e = tt
    go true e = (
      subst (λ (y : Rex). AreAmong y all) (sym (rex_back w r x b)) among,
      λ n. let same =
          sym (rex_back w r x b) ∙ n in asks (low_is low e same) same,
    )

rex_some : (c w r x b : Bool) → IfSome (when c (rex_byte (bits w r x b))) (λ byte. byte / 16 ≡ 4)
rex_some true w r x b = rex_is_rex w r x b
rex_some false w r x b = tt

when_few : (c : Bool) (x : ℕ) → length (option_to_list (when c x)) ≤ 1
when_few true x = omega arith
when_few false x = omega arith

pub spelling_from : (form : Form) (d : ℕ) (instr : Instr) → IsBuilt form d instr → HasSpelling form d instr
unfolding form_bytes rex_in
spelling_from form d instr built =
    let marks = option_to_list (mark_in form.fields) in
    let its = marks_are form.fields in
    let same = sym (its.is (rex_in form)) in
    let all = rex_bits form in
    let none = its.is None in
    record {
      body = built.body;
      parts = record {
        marks = marks;
        rex = rex_in form;
        opcode = opcode_bytes form;
        row = built.row;
        rest = built.rest;
        whole = ap (λ (t : List ℕ). marks ++ (option_to_list (rex_in form) ++ (opcode_bytes form ++ t))) built.rest-is;
        are_marks = its.are_marks;
        is_rex = rex_some (is_needed form.low_byte all.wide all.register all.index all.base) all.wide all.register all.index all.base;
        row-is = subst (λ (q : Prefixes). named (bits_of q) (opcode_bytes form) ≡ Some built.row) same
            (subst (λ (y : Rex). named y (opcode_bytes form) ≡ Some built.row) (sym (bits_again form)) built.row-is);
        takes = subst (λ (q : Prefixes). takes built.row q ≡ true) same built.takes;
        has_body = subst (λ (q : Prefixes). HasBody q built.row built.rest built.body) same built.has_body;
      };
      instr-is = built.instr-is;
      no_redundant = record {
        marks = its.only_fs;
        rex = rex_needed form.low_byte all.wide all.register all.index all.base (bits_read built.row built.rest)
            (AsksForRex marks built.row built.rest) built.among
            (λ low n. subst (λ (q : Prefixes). IfSome (action_of built.row ((slice_index built.rest 0 / 8) % 8))
            (λ action. allowed action q (slice_index built.rest 0) ≡ false)) (sym none) (built.asks low n));
      };
      short =
          let a = its.few in
          let b = when_few (is_needed form.low_byte all.wide all.register all.index all.base) (rex_byte all) in
          let c = when_few form.escaped 0x0f in
          let r = built.short in
          let s = ap (λ (t : List ℕ). length
          (marks ++ (option_to_list (rex_in form) ++ (opcode_bytes form ++ t)))) built.rest-is in
          let l1 = length-append marks (option_to_list (rex_in form) ++ (opcode_bytes form ++ built.rest)) in
          let l2 = length-append (option_to_list (rex_in form)) (opcode_bytes form ++ built.rest) in
          let l3 = length-append (opcode_bytes form) built.rest in
          let l4 = length-append (option_to_list (when form.escaped 0x0f)) (form.opcode ∷ []) in
          omega arith;
      row-is = built.row-is;
    }
