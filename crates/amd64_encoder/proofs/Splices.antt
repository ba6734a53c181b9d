-- Parts that are written one behind another are one part.
use Rattle.std.proofs.Common.{ℕ, ◌+◌, ◌-◌, ◌≤◌, ◌≡◌, List, [], ◌∷◌, ◌++◌, length, take, drop, refl, sym, ap, ◌∙◌, arith}
use Rattle.std.proofs.Common.{append_assoc, length-append}
use Rattle.std.proofs.lemmas.List.{drop-drop, drop_at, take_at, length-take-le}
use borrow.Rule.Slice.PartMut.{put_mid}
use Rattle.amd64_words.specs.declared.size.Size.{Size}
use Rattle.amd64_words.specs.declared.size.Size.TheVariants as size
use Rattle.std.specs.Option.{option_to_list}
use Rattle.std.specs.Prelude.{Option, Some}
use Rattle.amd64_subset.specs.declared.selectors.Selectors.{Selectors}
use Rattle.amd64_encoder.specs.declared.form.Form.{Form}
use Rattle.amd64_subset.specs.Number.{count_of}
use Rattle.amd64_subset.specs.Selectors.{displacement_size}
use Rattle.amd64_encoder.specs.Writing.{spliced, number_bytes, selector_bytes, selectors_in, mark_in, rex_in, when}
use Rattle.amd64_encoder.specs.Writing.{form_bytes}

-- after `bytes[at..at + new.len()].copy_from_slice(new)`
pub put_mid-part : (at : ℕ) (new bytes now : List ℕ) → now ≡ new
    → put_mid at (at + length new - at) bytes now ≡ spliced at new bytes
unfolding spliced
put_mid-part at new bytes now wrote =
    let size : at + length new - at ≡ length new = omega arith in
    let behind : drop (length new) (drop at bytes) ≡ drop (at + length new) bytes = drop-drop (length new) at bytes in
    rw (size, wrote, behind) refl

-- the bytes behind what was written stay
pub drop-spliced : (at n : ℕ) (new bytes : List ℕ) → at + length new ≤ n → at ≤ length bytes
    → drop n (spliced at new bytes) ≡ drop n bytes
unfolding spliced
drop-spliced at n new bytes above inside =
    let front = length-take-le at bytes inside in
    let joined : length (take at bytes ++ new) ≡ at + length new = length-append (take at bytes) new
    ∙ ap (λ k. k + length new) front in
    let split : (at + length new) + (n - (at + length new)) ≡ n = omega arith in
    ap (λ i. drop i (take at bytes ++ (new ++ drop (at + length new) bytes))) (sym split)
    ∙ sym (drop-drop (n - (at + length new)) (at + length new) (take at bytes ++ (new ++ drop (at + length new) bytes)))
    ∙ ap (drop (n - (at + length new)))
    (ap (drop (at + length new)) (sym (append_assoc (take at bytes) new (drop (at + length new) bytes)))
    ∙ drop_at (take at bytes ++ new) (drop (at + length new) bytes) (at + length new) joined)
    ∙ drop-drop (n - (at + length new)) (at + length new) bytes
    ∙ ap (λ i. drop i bytes) split

-- bytes written right behind others are one writing of both
pub spliced_more : (at next : ℕ) (xs ys bytes : List ℕ) → next ≡ at + length xs → at ≤ length bytes
    → spliced next ys (spliced at xs bytes) ≡ spliced at (xs ++ ys) bytes
unfolding spliced
spliced_more at next xs ys bytes place inside =
    let front = length-take-le at bytes inside in
    let joined : length (take at bytes ++ xs) ≡ next = length-append (take at bytes) xs ∙ ap (λ k. k + length xs) front
    ∙ sym place in
    let both = length-append xs ys in
    let end : next + length ys ≡ at + length (xs ++ ys) = omega arith in
    let within : at + length xs ≤ at + length (xs ++ ys) = omega arith in
    let head : take next (spliced at xs bytes) ≡ take at bytes ++ xs =
    ap (take next) (sym (append_assoc (take at bytes) xs (drop (at + length xs) bytes)))
    ∙ take_at (take at bytes ++ xs) (drop (at + length xs) bytes) next joined in
    let tail : drop (next + length ys) (spliced at xs bytes) ≡ drop (at + length (xs ++ ys)) bytes =
    ap (λ i. drop i (spliced at xs bytes)) end ∙ drop-spliced at (at + length (xs ++ ys)) xs bytes within inside in
    rw (head, tail) (append_assoc (take at bytes) xs (ys ++ drop (at + length (xs ++ ys)) bytes)
    ∙ ap (λ r. take at bytes ++ r) (sym (append_assoc xs ys (drop (at + length (xs ++ ys)) bytes))))

-- what was written from the start on
pub take-spliced : (new bytes : List ℕ) → take (length new) (spliced 0 new bytes) ≡ new
unfolding spliced
take-spliced new bytes = take_at new (drop (0 + length new) bytes) (length new) refl

pub length-number : (size : Size) (number : ℕ) → length (number_bytes size number) ≡ count_of size
unfolding number_bytes
length-number size.Zero number = refl
length-number size.One number = refl
length-number size.Four number = refl
length-number size.Eight number = refl

-- what two writings leave, one behind the other
pub then_spliced : (at next : ℕ) (x y old mid new : List ℕ) → mid ≡ spliced at x old → new ≡ spliced next y mid
    → next ≡ at + length x → at ≤ length old → new ≡ spliced at (x ++ y) old
then_spliced at next x y old mid new first second place inside = second ∙ ap (λ t. spliced next y t) first
    ∙ spliced_more at next x y old place inside

-- ---- the parts of a form

pub length-selectors : (o : Option Selectors) (s : Selectors) (d : ℕ) → o ≡ Some s
    → length (selector_bytes o d) ≡ 1 + length (option_to_list s.sib) + count_of (displacement_size s)
length-selectors o s d e =
    rw (e) (omega (
      arith,
      length-append (option_to_list s.sib) (number_bytes (displacement_size s) d),
      length-number (displacement_size s) d,
    ))

pub selectors_spliced : (o : Option Selectors) (s : Selectors) (size : Size) (d at one two : ℕ) (r0 r1 r2 r3 : List ℕ)
    → o ≡ Some s → size ≡ displacement_size s → at ≤ length r0
    → r1 ≡ spliced at (s.modrm ∷ []) r0 → one ≡ at + 1 → r2 ≡ spliced one (option_to_list s.sib) r1
    → two ≡ one + length (option_to_list s.sib) → r3 ≡ spliced two (number_bytes size d) r2
    → r3 ≡ spliced at (selector_bytes o d) r0
selectors_spliced o s size d at one two r0 r1 r2 r3 is size-is inside first next second after third =
    let place : two ≡ at + length ((s.modrm ∷ []) ++ option_to_list s.sib) =
    omega (arith, length-append (s.modrm ∷ []) (option_to_list s.sib)) in
    let two_parts = then_spliced at one (s.modrm ∷ []) (option_to_list s.sib) r0 r1 r2 first second next inside in
    let all = then_spliced at two ((s.modrm ∷ []) ++ option_to_list s.sib)
    (number_bytes size d) r0 r2 r3 two_parts third place inside in
    rw (is, ← size-is) (all
    ∙ ap (λ t. spliced at t r0) (append_assoc (s.modrm ∷ []) (option_to_list s.sib) (number_bytes size d)))

pub length-form : (form : Form) (d : ℕ) → length (form_bytes form d) ≡ length (option_to_list (mark_in form.fields)) +
    (length (option_to_list (rex_in form))
    + ((length (option_to_list (when form.escaped 0x0f)) + 1)
    + (length (selector_bytes (selectors_in form.fields d) d) + count_of form.size)))
unfolding form_bytes
length-form form d =
    let m = option_to_list (mark_in form.fields) in
    let x = option_to_list (rex_in form) in
    let e = option_to_list (when form.escaped 0x0f) in
    let s = selector_bytes (selectors_in form.fields d) d in
    let n = number_bytes form.size form.number in
    omega (
      arith,
      length-append m (x ++ ((e ++ (form.opcode ∷ [])) ++ (s ++ n))),
      length-append x ((e ++ (form.opcode ∷ [])) ++ (s ++ n)),
      length-append
          (e ++ (form.opcode ∷ [])) (s ++ n),
      length-append e (form.opcode ∷ []),
      length-append s n,
      length-number form.size form.number,
    )

-- six parts, the fourth of one byte
pub form_spliced : (form : Form) (d a b c e f : ℕ) (r0 r1 r2 r3 r4 r5 r6 : List ℕ)
    → r1 ≡ spliced 0 (option_to_list (mark_in form.fields)) r0 → a ≡ length (option_to_list (mark_in form.fields))
    → r2 ≡ spliced a (option_to_list (rex_in form)) r1 → b ≡ a + length (option_to_list (rex_in form))
    → r3 ≡ spliced b (option_to_list (when form.escaped 0x0f)) r2
    → c ≡ b + length (option_to_list (when form.escaped 0x0f))
    → r4 ≡ spliced c (form.opcode ∷ []) r3 → e ≡ c + 1
    → r5 ≡ spliced e (selector_bytes (selectors_in form.fields d) d) r4
    → f ≡ e + length (selector_bytes (selectors_in form.fields d) d)
    → r6 ≡ spliced f (number_bytes form.size form.number) r5
    → r6 ≡ spliced 0 (form_bytes form d) r0
unfolding form_bytes
form_spliced form d a b c e f r0 r1 r2 r3 r4 r5 r6 w1 p1 w2 p2 w3 p3 w4 p4 w5 p5 w6 =
    let m = option_to_list (mark_in form.fields) in
    let x = option_to_list (rex_in form) in
    let o = option_to_list (when form.escaped 0x0f) in
    let s = selector_bytes (selectors_in form.fields d) d in
    let n = number_bytes form.size form.number in
    let l2 = length-append m x in
    let l3 = length-append (m ++ x) o in
    let l4 = length-append ((m ++ x) ++ o) (form.opcode ∷ []) in
    let l5 = length-append (((m ++ x) ++ o) ++ (form.opcode ∷ [])) s in
    let z : 0 ≤ length r0 = omega arith in
    let q2 = then_spliced 0 a m x r0 r1 r2 w1 w2 (omega arith) z in
    let q3 = then_spliced 0 b (m ++ x) o r0 r2 r3 q2 w3 (omega arith) z in
    let q4 = then_spliced 0 c ((m ++ x) ++ o) (form.opcode ∷ []) r0 r3 r4 q3 w4 (omega arith) z in
    let q5 = then_spliced 0 e (((m ++ x) ++ o) ++ (form.opcode ∷ [])) s r0 r4 r5 q4 w5 (omega arith) z in
    let q6 = then_spliced 0 f ((((m ++ x) ++ o) ++ (form.opcode ∷ [])) ++ s) n r0 r5 r6 q5 w6 (omega arith) z in
    q6 ∙ ap (λ t. spliced 0 t r0) (simp append_assoc)

pub form_written : (form : Form) (mark rex escape : Option ℕ) (o : Option Selectors) (d a b c e f : ℕ)
    (r0 r1 r2 r3 r4 r5 r6 : List ℕ)
    → mark ≡ mark_in form.fields → rex ≡ rex_in form → escape ≡ when form.escaped 0x0f → o ≡ selectors_in form.fields d
    → r1 ≡ spliced 0 (option_to_list mark) r0 → a ≡ 0 + length (option_to_list mark)
    → r2 ≡ spliced a (option_to_list rex) r1 → b ≡ a + length (option_to_list rex)
    → r3 ≡ spliced b (option_to_list escape) r2 → c ≡ b + length (option_to_list escape)
    → r4 ≡ spliced c (form.opcode ∷ []) r3 → e ≡ c + 1
    → r5 ≡ spliced e (selector_bytes o d) r4 → f ≡ e + length (selector_bytes o d)
    → r6 ≡ spliced f (number_bytes form.size form.number) r5
    → r6 ≡ spliced 0 (form_bytes form d) r0
form_written form mark rex escape o d a b c e f r0 r1 r2 r3 r4 r5 r6 em ex ee es w1 p1 w2 p2 w3 p3 w4 p4 w5 p5 w6 =
    form_spliced form d a b c e f r0 r1 r2 r3 r4 r5 r6
    (w1 ∙ ap (λ t. spliced 0 (option_to_list t) r0) em) (let l = ap (λ t. length (option_to_list t)) em in omega arith)
    (w2 ∙ ap (λ t. spliced a (option_to_list t) r1) ex) (p2 ∙ ap (λ t. a + length (option_to_list t)) ex)
    (w3 ∙ ap (λ t. spliced b (option_to_list t) r2) ee) (p3 ∙ ap (λ t. b + length (option_to_list t)) ee)
    w4 p4
    (w5 ∙ ap (λ t. spliced e (selector_bytes t d) r4) es) (p5 ∙ ap (λ t. e + length (selector_bytes t d)) es)
    w6
