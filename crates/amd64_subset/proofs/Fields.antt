-- Fields behind the opcode: what is read is what stands there, and what stands there is read.
use Rattle.std.proofs.Common.{◌≡◌, ℕ, ◌+◌, ◌-◌, ◌/◌, ◌%◌, ◌≤◌, true, false, ltb, List, [], ◌∷◌, ◌++◌, length, take}
use Rattle.std.proofs.Common.{drop, Option, Some, None, Ok, refl, sym, ap, subst, ◌∙◌, append_assoc, arith}
use Rattle.std.proofs.Common.{inl, inr}
use Rattle.std.specs.Prelude.{not, is_some, ok_or}
use Rattle.std.specs.Option.{option_to_list}
use Rattle.std.proofs.lemmas.Bool.{ltb-false, le-ltb, not-true, not-false}
use Rattle.std.proofs.lemmas.List.{take_at, drop_at, take-append-drop, length-append, length-take, length-drop}
use Rattle.amd64_subset.specs.declared.fault.Fault.TheVariants.{Short, Wrong}
use Rattle.amd64_subset.specs.declared.prefix.Prefixes.{Prefixes}
use Rattle.amd64_words.specs.declared.size.Size.{Size}
use Rattle.amd64_subset.specs.declared.numbers.Numbers.{Numbers}
use Rattle.amd64_subset.specs.declared.row.Row.{Row}
use Rattle.amd64_subset.specs.declared.row.Action.{Action}
use Rattle.amd64_subset.specs.declared.selectors.Selectors.{Selectors}
use Rattle.amd64_subset.specs.declared.meaning.Body.{Body}
use Rattle.amd64_subset.specs.Number.{count_of, signed_of}
use Rattle.amd64_subset.specs.Row.{action_of}
use Rattle.amd64_subset.specs.Selectors.{has_sib, allowed, displacement_size, sib_at, selectors_at}
use Rattle.amd64_subset.specs.Meaning.{operand_body}
use Rattle.amd64_subset.specs.Reading.{numbers_at}
use Rattle.amd64_subset.specs.Decoding.{operated_at}
use Rattle.amd64_subset.specs.Spelling.{IsOperated}
use Rattle.amd64_subset.proofs.Steps.{bind_ok, kept, chosen, ok_or_ok, ok_is}

-- ---- numbers

-- two fields of these sizes, and what they hold
pub record HasNumbers (d i : Size) (bytes : List ℕ) (n : Numbers) (rest : List ℕ) : Type 0 where
  pub first : List ℕ
  pub second : List ℕ
  pub whole : bytes ≡ first ++ (second ++ rest)
  pub first-length : length first ≡ count_of d
  pub second-length : length second ≡ count_of i
  pub is : n ≡ record { displacement = signed_of d first; immediate = signed_of i second }

pub numbers_takes : (d i : Size) (bytes : List ℕ) (n : Numbers) (rest : List ℕ) → numbers_at d i bytes ≡ Ok (n, rest)
    → HasNumbers d i bytes n rest
unfolding numbers_at
numbers_takes d i bytes n rest e =
    let k = kept (ltb (length bytes) (count_of d + count_of i)) (Short (count_of d + count_of i - length bytes)) _
    (n, rest) e in
    let long : count_of d + count_of i ≤ length bytes = ltb-false _ _ k.0 in
    let is = ok_is _ (n, rest) k.1 in
    let n-is : record {
      displacement = signed_of d (take (count_of d) bytes);
      immediate = signed_of i (take (count_of i) (drop (count_of d) bytes));
    } ≡ n =
    ap (λ (p : Numbers × List ℕ). p.0) is in
    let rest-is : drop (count_of i) (drop (count_of d) bytes) ≡ rest = ap (λ (p : Numbers × List ℕ). p.1) is in
    record {
      first = take (count_of d) bytes;
      second = take (count_of i) (drop (count_of d) bytes);
      whole = rw (← rest-is, take-append-drop, take-append-drop) refl;
      first-length = omega (arith, length-take (count_of d) bytes);
      second-length = omega (arith, length-take (count_of i) (drop (count_of d) bytes), length-drop (count_of d) bytes);
      is = sym n-is;
    }

pub numbers_again : (d i : Size) (first second rest : List ℕ) → length first ≡ count_of d → length second ≡ count_of i
    → numbers_at d i (first ++ (second ++ rest))
    ≡ Ok (record { displacement = signed_of d first; immediate = signed_of i second }, rest)
unfolding numbers_at
numbers_again d i first second rest f s =
    let long : ltb (length (first ++ (second ++ rest))) (count_of d + count_of i) ≡ false =
    le-ltb _ _ (omega (arith, length-append first (second ++ rest), length-append second rest)) in
    rw (
      long,
      take_at first (second ++ rest) (count_of d) f,
      drop_at first (second ++ rest) (count_of d) f,
      take_at second rest (count_of i) s,
      drop_at second rest (count_of i) s,
    ) refl

-- ---- SIB

pub sib_takes : (modrm : ℕ) (behind : Size) (bytes : List ℕ) (sib : Option ℕ) (rest : List ℕ)
    → sib_at modrm behind bytes ≡ Ok (sib, rest)
    → (bytes ≡ option_to_list sib ++ rest) × (is_some sib ≡ has_sib modrm)
unfolding sib_at
sib_takes modrm behind [] sib rest e =
    elim (chosen (not (has_sib modrm)) _ _ _ e) [
      | inl h ↦ let p = ok_is (None, []) (sib, rest) h.1 in (
        ap (λ (x : Option ℕ × List ℕ). option_to_list x.0 ++ x.1) p,
        ap (λ (x : Option ℕ × List ℕ). is_some x.0) (sym p) ∙ sym (not-true _ h.0),
      )
      | inr h ↦ absurd cc
    ]
sib_takes modrm behind (byte ∷ bytes) sib rest e =
    elim (chosen (not (has_sib modrm)) _ _ _ e) [
      | inl h ↦ let p = ok_is (None, byte ∷ bytes) (sib, rest) h.1 in (
        ap (λ (x : Option ℕ × List ℕ). option_to_list x.0 ++ x.1) p,
        ap
            (λ (x : Option ℕ × List ℕ). is_some x.0) (sym p) ∙ sym (not-true _ h.0),
      )
      | inr h ↦ let p = ok_is (Some byte, bytes) (sib, rest) h.1 in (
        ap (λ (x : Option ℕ × List ℕ). option_to_list x.0 ++ x.1) p,
        ap
            (λ (x : Option ℕ × List ℕ). is_some x.0) (sym p) ∙ sym (not-false _ h.0),
      )
    ]

pub sib_again : (modrm : ℕ) (behind : Size) (sib : Option ℕ) (rest : List ℕ) → is_some sib ≡ has_sib modrm
    → sib_at modrm behind (option_to_list sib ++ rest) ≡ Ok (sib, rest)
unfolding sib_at
sib_again modrm behind None rest e = rw (← e) refl
sib_again modrm behind (Some sib) rest e = rw (← e) refl

-- ---- ModRM and SIB

pub record HasSelectors (prefixes : Prefixes) (row : Row) (bytes : List ℕ) (selected : Action × Selectors)
    (rest : List ℕ) : Type 0 where
  pub whole : bytes ≡ selected.1.modrm ∷ (option_to_list selected.1.sib ++ rest)
  pub action-is : action_of row ((selected.1.modrm / 8) % 8) ≡ Some selected.0
  pub allows : allowed selected.0 prefixes selected.1.modrm ≡ true
  pub has_sib : is_some selected.1.sib ≡ has_sib selected.1.modrm

pub selectors_takes : (prefixes : Prefixes) (row : Row) (size : Size) (bytes : List ℕ) (selected : Action × Selectors)
    (rest : List ℕ)
    → selectors_at prefixes row size bytes ≡ Ok (selected, rest) → HasSelectors prefixes row bytes selected rest
unfolding selectors_at
selectors_takes prefixes row size [] selected rest e = absurd cc
selectors_takes prefixes row size (modrm ∷ bytes) selected rest e =
    let named = bind_ok (ok_or (action_of row ((modrm / 8) % 8)) Wrong) _ (selected, rest) e in
    let fits = kept (not (allowed named.0 prefixes modrm)) Wrong _ (selected, rest) named.2 in
    let sib = bind_ok (sib_at modrm size bytes) _ (selected, rest) fits.1 in
    let front = sib_takes modrm size bytes sib.0.0 sib.0.1 sib.1 in
    let P : (Action × Selectors) × List ℕ → Type 0 = λ x. HasSelectors prefixes row (modrm ∷ bytes) x.0 x.1 in
    subst P (ok_is _ (selected, rest) sib.2) (record {
      whole = ap (λ (t : List ℕ). modrm ∷ t) front.0;
      action-is = ok_or_ok _ _ named.1;
      allows = not-false _ fits.0;
      has_sib = front.1;
    })

pub selectors_again : (prefixes : Prefixes) (row : Row) (size : Size) (modrm : ℕ) (sib : Option ℕ) (action : Action)
    (rest : List ℕ)
    → action_of row ((modrm / 8) % 8) ≡ Some action → allowed action prefixes modrm ≡ true → is_some sib ≡ has_sib modrm
    → selectors_at prefixes row size (modrm ∷ (option_to_list sib ++ rest))
    ≡ Ok ((action, record { modrm = modrm; sib = sib }), rest)
unfolding selectors_at
selectors_again prefixes row size modrm sib action rest named allows has =
    rw (named, allows, sib_again modrm size sib rest has) refl

-- ---- ModRM and all that follows

regroup : (m : ℕ) (s a b rest bytes middle end : List ℕ) → bytes ≡ m ∷ (s ++ middle) → middle ≡ a ++ (b ++ end)
    → end ≡ rest → bytes ≡ (m ∷ (s ++ (a ++ b))) ++ rest
regroup m s a b rest bytes middle end whole parts same = rw (whole, parts, same) (simp append_assoc)

pub operated_takes : (prefixes : Prefixes) (row : Row) (size : Size) (bytes : List ℕ) (body : Body) (rest : List ℕ)
    → operated_at prefixes row size bytes ≡ Ok (body, rest)
    → (front : List ℕ) × (bytes ≡ front ++ rest) × IsOperated prefixes row size front body
unfolding operated_at
operated_takes prefixes row size bytes body rest e =
    let selected = bind_ok (selectors_at prefixes row size bytes) _ (body, rest) e in
    let action = selected.0.0.0 in
    let selectors = selected.0.0.1 in
    let head = selectors_takes prefixes row size bytes selected.0.0 selected.0.1 selected.1 in
    let read = bind_ok (numbers_at (displacement_size selectors) size selected.0.1) _ (body, rest) selected.2 in
    let numbers = numbers_takes (displacement_size selectors) size selected.0.1 read.0.0 read.0.1 read.1 in
    let is = ok_is _ (body, rest) read.2 in
    let body-is : operand_body action prefixes selectors size read.0.0 ≡ body = ap (λ (p : Body × List ℕ). p.0) is in
    let rest-is : read.0.1 ≡ rest = ap (λ (p : Body × List ℕ). p.1) is in
    let front = selectors.modrm ∷ (option_to_list selectors.sib ++ (numbers.first ++ numbers.second)) in (
      front,
      regroup selectors.modrm
          (option_to_list selectors.sib) numbers.first numbers.second rest bytes selected.0.1 read.0.1 head.whole numbers.whole rest-is,
      record {
        modrm = selectors.modrm;
        sib = selectors.sib;
        displacement = numbers.first;
        immediate = numbers.second;
        action = action;
        whole = refl;
        action-is = head.action-is;
        allows = head.allows;
        has_sib = head.has_sib;
        displacement-length = numbers.first-length;
        immediate-length = numbers.second-length;
        body-is = sym body-is ∙ ap (λ (n : Numbers). operand_body action prefixes selectors size n) numbers.is;
      },
    )

pub operated_again : (prefixes : Prefixes) (row : Row) (size : Size) (front : List ℕ) (body : Body) (rest : List ℕ)
    → IsOperated prefixes row size front body
    → operated_at prefixes row size (front ++ rest) ≡ Ok (body, rest)
unfolding operated_at
operated_again prefixes row size front body rest h =
    let selectors : Selectors = record { modrm = h.modrm; sib = h.sib } in
    let regrouped : front ++ rest ≡ h.modrm ∷ (option_to_list h.sib ++ (h.displacement ++ (h.immediate ++ rest))) =
    ap (λ (t : List ℕ). t ++ rest) h.whole ∙ simp append_assoc in
    rw (
      regrouped,
      selectors_again prefixes row size h.modrm h.sib h.action
          (h.displacement ++ (h.immediate ++ rest)) h.action-is h.allows h.has_sib,
      numbers_again
          (displacement_size selectors) size h.displacement h.immediate rest h.displacement-length h.immediate-length,
      h.body-is,
    ) refl
