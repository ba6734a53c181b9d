-- What another number in a field's place changes.
use Rattle.std.proofs.Common.{◌≡◌, ℕ, ◌+◌, ◌-◌, ◌%◌, ◌≤◌, Bool, true, false, cond, List, [], ◌∷◌, ◌++◌, length, take}
use Rattle.std.proofs.Common.{drop, Option, Some, None, refl, sym, ap, ◌∙◌, append_assoc, append-nil, arith}
use Rattle.std.specs.Option.{option_to_list}
use Rattle.std.proofs.lemmas.List.{length-append, take_at, drop_at, take-append-drop}
use Rattle.std.proofs.lemmas.Bool.{cond-true}
use Rattle.amd64_subset.specs.declared.instr.Operation.{Operation}
use Rattle.amd64_subset.specs.declared.instr.Decoded.{Decoded}
use Rattle.amd64_subset.specs.declared.instr.Width.{Width}
use Rattle.amd64_subset.specs.declared.prefix.Prefixes.{Prefixes}
use Rattle.amd64_words.specs.declared.size.Size.{Size}
use Rattle.amd64_words.specs.declared.size.Size.TheVariants as size
use Rattle.amd64_subset.specs.declared.row.Row.{Row}
use Rattle.amd64_subset.specs.declared.row.Row.TheVariants as row
use Rattle.amd64_subset.specs.declared.row.Numbered.{Numbered}
use Rattle.amd64_subset.specs.declared.row.Numbered.TheVariants as numbered
use Rattle.amd64_subset.specs.declared.row.Action.{Action}
use Rattle.amd64_subset.specs.declared.row.Action.TheVariants as action
use Rattle.amd64_subset.specs.declared.selectors.Selectors.{Selectors}
use Rattle.amd64_subset.specs.declared.meaning.Body.{Body}
use Rattle.amd64_subset.specs.Number.{count_of, signed_of}
use Rattle.amd64_subset.specs.Selectors.{displacement_size}
use Rattle.amd64_subset.specs.Meaning.{width_of, from_end, is_immediate, takes_immediate, numbered_body, operation_of}
use Rattle.amd64_subset.specs.Meaning.{operand_body}
use Rattle.amd64_subset.specs.Decoding.{before, placed, decoded}
use Rattle.amd64_subset.specs.Spelling.{prefixes_of, IsOperated, HasBody, HasParts, Spells, field_of, with_displacement}
use Rattle.amd64_subset.specs.Spelling.{with_immediate}
use Rattle.amd64_subset.proofs.Whole.{decoded_found, decoded_again}

-- two splittings of one list at one place
pub same_split : (a b x y : List ℕ) → a ++ x ≡ b ++ y → length a ≡ length b → (a ≡ b) × (x ≡ y)
same_split a b x y e len = (
  sym (take_at a x (length b) len) ∙ ap (λ (t : List ℕ). take (length b) t) e ∙ take_at b y (length b) refl,
  sym (drop_at a x (length b) len) ∙ ap (λ (t : List ℕ). drop (length b) t) e ∙ drop_at b y (length b) refl,
)

pub spells_len : (bytes : List ℕ) (d : Decoded) → Spells bytes d → d.len ≡ length bytes
spells_len bytes d h = ap (λ (x : Decoded). x.len) h.decoded-is

pub one_spelling_lem : (a b x y : List ℕ) (d e : Decoded) → Spells a d → Spells b e → a ++ x ≡ b ++ y
    → (a ≡ b) × (d ≡ e)
one_spelling_lem a b x y d e first second same =
    let one : decoded (a ++ x) ≡ Some d = decoded_again a d x first in
    let two : decoded (a ++ x) ≡ Some e = ap decoded same ∙ decoded_again b e y second in
    let equal : d ≡ e = cc in
    let len : length a ≡ length b = sym (spells_len a d first) ∙ ap (λ (z : Decoded). z.len) equal
    ∙ spells_len b e second in
    ((same_split a b x y same len).0, equal)

pub front_lem : (bytes tail : List ℕ) (d : Decoded) → decoded bytes ≡ Some d
    → decoded (take d.len bytes ++ tail) ≡ Some d
front_lem bytes tail d e = decoded_again (take d.len bytes) d tail (decoded_found bytes d e).spells

-- ---- what stands behind an opcode, with a field in it

-- With any other four bytes between these two parts, the body is the same but for this change.
pub record HasGap (prefixes : Prefixes) (r : Row) (rest : List ℕ) (change : ℕ → Body → Body) (back : ℕ) (body : Body)
    (number : ℕ) : Type 0 where
  pub left : List ℕ
  pub four : List ℕ
  pub right : List ℕ
  pub whole : rest ≡ left ++ (four ++ right)
  pub four-length : length four ≡ 4
  pub right-length : back ≡ length right + 4
  pub number-is : number ≡ field_of four
  pub other : (o : List ℕ) → length o ≡ 4 → HasBody prefixes r (left ++ (o ++ right)) (change (field_of o) body)

abbrev pub displaced : ℕ → Body → Body
displaced number body = record body { instr = record body.instr { displacement = number } }

abbrev pub immediately : ℕ → Body → Body
immediately number body = record body { instr = record body.instr { immediate = number } }

four_back : (s : Size) (behind back : ℕ) → from_end s behind ≡ Some back → (s ≡ size.Four) × (back ≡ behind + 4)
four_back size.Zero behind back e = absurd cc
four_back size.One behind back e = absurd cc
four_back size.Four behind back e = (refl, cc)
four_back size.Eight behind back e = absurd cc

operated_displaced : (prefixes : Prefixes) (r : Row) (s : Size) (rest : List ℕ) (body : Body) (back : ℕ)
    → IsOperated prefixes r s rest body
    → ((o : List ℕ) (b : Body) → IsOperated prefixes r s o b → HasBody prefixes r o b) → body.disp ≡ Some back
    → HasGap prefixes r rest displaced back body body.instr.displacement
unfolding operand_body
operated_displaced prefixes r s rest body back h as_body e =
    let selectors : Selectors = record { modrm = h.modrm; sib = h.sib } in
    let place : from_end (displacement_size selectors) (count_of s) ≡ Some back =
    ap (λ (b : Body). b.disp) (sym h.body-is) ∙ e in
    let size-is = four_back (displacement_size selectors) (count_of s) back place in
    let four-is : displacement_size selectors ≡ size.Four = size-is.0 in
    record {
      left = h.modrm ∷ option_to_list h.sib;
      four = h.displacement;
      right = h.immediate;
      whole = h.whole;
      four-length = h.displacement-length ∙ ap count_of four-is;
      right-length = size-is.1 ∙ ap (λ (n : ℕ). n + 4) (sym h.immediate-length);
      number-is = ap (λ (b : Body). b.instr.displacement) h.body-is
          ∙ ap (λ (x : Size). signed_of x h.displacement) four-is;
      other = λ o len. as_body (h.modrm ∷ (option_to_list h.sib ++ (o ++ h.immediate))) (displaced (field_of o) body)
          (record {
            modrm = h.modrm;
            sib = h.sib;
            displacement = o;
            immediate = h.immediate;
            action = h.action;
            whole = refl;
            action-is = h.action-is;
            allows = h.allows;
            has_sib = h.has_sib;
            displacement-length = len ∙ ap count_of (sym four-is);
            immediate-length = h.immediate-length;
            body-is = ap (λ (b : Body). displaced (field_of o) b) h.body-is
                ∙ ap (λ (x : Size). operand_body h.action prefixes selectors s
                (record { displacement = signed_of x o; immediate = signed_of s h.immediate })) (sym four-is);
          });
    }

-- what has an immediate is no shift, so its operation does not depend on a count
same_operation : (a : Action) (prefixes : Prefixes) (selectors : Selectors) (m n : ℕ) → takes_immediate a ≡ true
    → operation_of a prefixes selectors m ≡ operation_of a prefixes selectors n
unfolding operation_of
same_operation action.MoveImmediate prefixes selectors m n e = refl
same_operation (action.ComputeImmediate arithmetic) prefixes selectors m n e = refl
same_operation a prefixes selectors m n e = absurd cc

rebuilt : (x y : Operation) (d m n : ℕ) (p q : Option ℕ) → x ≡ y → m ≡ n
    → ◌≡◌ {A = Body} (record { instr = record { operation = x; displacement = d; immediate = m }; disp = p; imm = q })
    (record { instr = record { operation = y; displacement = d; immediate = n }; disp = p; imm = q })
rebuilt x y d m n p q e f = rw (e, f) refl

some_if : (b : Bool) (o : Option ℕ) (back : ℕ) → cond b o None ≡ Some back → (b ≡ true) × (o ≡ Some back)
some_if true o back e = (refl, e)
some_if false o back e = absurd cc

operated_immediate : (prefixes : Prefixes) (r : Row) (s : Size) (rest : List ℕ) (body : Body) (back : ℕ)
    → IsOperated prefixes r s rest body
    → ((o : List ℕ) (b : Body) → IsOperated prefixes r s o b → HasBody prefixes r o b) → body.imm ≡ Some back
    → HasGap prefixes r rest immediately back body body.instr.immediate
unfolding operand_body
operated_immediate prefixes r s rest body back h as_body e =
    let selectors : Selectors = record { modrm = h.modrm; sib = h.sib } in
    let imm : cond (takes_immediate h.action) (from_end s 0) None ≡ Some back = ap (λ (b : Body). b.imm) (sym h.body-is)
    ∙ e in
    let takes = some_if (takes_immediate h.action) (from_end s 0) back imm in
    let size-is = four_back s 0 back takes.1 in
    let number : cond (takes_immediate h.action) (signed_of s h.immediate) 0 ≡ signed_of s h.immediate =
    rw (takes.0) refl in
    record {
      left = h.modrm ∷ (option_to_list h.sib ++ h.displacement);
      four = h.immediate;
      right = [];
      whole = h.whole ∙ simp (append_assoc, append-nil);
      four-length = h.immediate-length ∙ ap count_of size-is.0;
      right-length = omega (arith, size-is.1);
      number-is = ap (λ (b : Body). b.instr.immediate) h.body-is ∙ number
          ∙ ap (λ (x : Size). signed_of x h.immediate) size-is.0;
      other = λ o len. let number_of : field_of o ≡ cond (takes_immediate h.action) (signed_of s o) 0 =
          ap (λ (x : Size). signed_of x o) (sym size-is.0)
          ∙ sym (cond-true (takes_immediate h.action) (signed_of s o) 0 takes.0) in
          as_body ((h.modrm ∷ (option_to_list h.sib ++ h.displacement)) ++ (o ++ [])) (immediately (field_of o) body)
          (record {
            modrm = h.modrm;
            sib = h.sib;
            displacement = h.displacement;
            immediate = o;
            action = h.action;
            whole = simp (append_assoc, append-nil);
            action-is = h.action-is;
            allows = h.allows;
            has_sib = h.has_sib;
            displacement-length = h.displacement-length;
            immediate-length = len ∙ ap count_of (sym size-is.0);
            body-is = ap (λ (b : Body). immediately (field_of o) b) h.body-is
                ∙ rebuilt _ _ _ _ _ _ _
                (same_operation h.action prefixes selectors (signed_of s h.immediate % 256)
                (signed_of s o % 256) takes.0) number_of;
          });
    }

is_immediate_imm : (action : Numbered) (w : Width) (s : Size) (n back : ℕ)
    → (numbered_body action w s n).imm ≡ Some back → (is_immediate action ≡ true) × (from_end s 0 ≡ Some back)
unfolding numbered_body
is_immediate_imm numbered.Call w s n back e = absurd cc
is_immediate_imm numbered.Jump w s n back e = absurd cc
is_immediate_imm (numbered.JumpIf c) w s n back e = absurd cc
is_immediate_imm (numbered.Move r) w s n back e = (refl, e)
is_immediate_imm (numbered.Compute a) w s n back e = (refl, e)

immediate_of : (action : Numbered) (w : Width) (s : Size) (n : ℕ) → is_immediate action ≡ true
    → (numbered_body action w s n).instr.immediate ≡ n
unfolding numbered_body
immediate_of (numbered.Move r) w s n e = refl
immediate_of (numbered.Compute a) w s n e = refl
immediate_of action w s n e = absurd cc

other_immediate : (action : Numbered) (w : Width) (s : Size) (m n : ℕ) → is_immediate action ≡ true
    → immediately n (numbered_body action w s m) ≡ numbered_body action w s n
unfolding numbered_body
other_immediate (numbered.Move r) w s m n e = refl
other_immediate (numbered.Compute a) w s m n e = refl
other_immediate action w s m n e = absurd cc

numbered_disp : (action : Numbered) (w : Width) (s : Size) (n : ℕ) → (numbered_body action w s n).disp ≡ None
unfolding numbered_body
numbered_disp numbered.Call w s n = refl
numbered_disp numbered.Jump w s n = refl
numbered_disp (numbered.JumpIf c) w s n = refl
numbered_disp (numbered.Move r) w s n = refl
numbered_disp (numbered.Compute a) w s n = refl

-- a number alone
numbered_immediate : (action : Numbered) (s : Size) (prefixes : Prefixes) (rest : List ℕ) (body : Body) (back : ℕ)
    → HasBody prefixes (row.Number action s) rest body → body.imm ≡ Some back
    → HasGap prefixes (row.Number action s) rest immediately back body body.instr.immediate
numbered_immediate action s prefixes rest body back h e =
    let imm : (numbered_body action (width_of prefixes) s (signed_of s rest)).imm ≡ Some back =
    ap (λ (b : Body). b.imm) (sym h.1) ∙ e in
    let is = is_immediate_imm action (width_of prefixes) s (signed_of s rest) back imm in
    let size-is = four_back s 0 back is.1 in
    record {
      left = [];
      four = rest;
      right = [];
      whole = sym (append-nil rest);
      four-length = h.0 ∙ ap count_of size-is.0;
      right-length = size-is.1;
      number-is = ap (λ (b : Body). b.instr.immediate) h.1
          ∙ immediate_of action (width_of prefixes) s (signed_of s rest) is.0
          ∙ ap (λ (x : Size). signed_of x rest) size-is.0;
      other = λ o len. (
        ap length (append-nil o) ∙ len ∙ ap count_of (sym size-is.0),
        ap (λ (b : Body). immediately (field_of o) b) h.1
            ∙ other_immediate action (width_of prefixes) s (signed_of s rest) (field_of o) is.0
            ∙ ap (λ (n : ℕ). numbered_body action (width_of prefixes) s n)
            (ap (λ (x : Size). signed_of x o) (sym size-is.0)
            ∙ ap (λ (l : List ℕ). signed_of s l) (sym (append-nil o))),
      );
    }

no_displacement : (prefixes : Prefixes) (r : Row) (rest : List ℕ) (body : Body) (back : ℕ) → body.disp ≡ None
    → body.disp ≡ Some back
    → HasGap prefixes r rest displaced back body body.instr.displacement
no_displacement prefixes r rest body back none some = absurd cc

pub body_displaced : (prefixes : Prefixes) (r : Row) (rest : List ℕ) (body : Body) (back : ℕ)
    → HasBody prefixes r rest body → body.disp ≡ Some back
    → HasGap prefixes r rest displaced back body body.instr.displacement
body_displaced prefixes (row.Alone operation) rest body back h e =
    no_displacement prefixes (row.Alone operation) rest body back (ap (λ (b : Body). b.disp) h.1) e
body_displaced prefixes row.Nop rest body back h e =
    no_displacement prefixes row.Nop rest body back (ap (λ (b : Body). b.disp) h.1) e
body_displaced prefixes row.EndBranch rest body back h e =
    no_displacement prefixes row.EndBranch rest body back (ap (λ (b : Body). b.disp) h.1) e
body_displaced prefixes (row.Number action s) rest body back h e =
    no_displacement prefixes (row.Number action s) rest body back
    (ap (λ (b : Body). b.disp) h.1 ∙ numbered_disp action (width_of prefixes) s (signed_of s rest)) e
body_displaced prefixes (row.Register action) rest body back h e =
    operated_displaced prefixes (row.Register action) size.Zero rest body back h (λ o b x. x) e
body_displaced prefixes (row.Group group s) rest body back h e =
    operated_displaced prefixes (row.Group group s) s rest body back h (λ o b x. x) e

no_immediate : (prefixes : Prefixes) (r : Row) (rest : List ℕ) (body : Body) (back : ℕ) → body.imm ≡ None
    → body.imm ≡ Some back → HasGap prefixes r rest immediately back body body.instr.immediate
no_immediate prefixes r rest body back none some = absurd cc

pub body_immediate : (prefixes : Prefixes) (r : Row) (rest : List ℕ) (body : Body) (back : ℕ)
    → HasBody prefixes r rest body → body.imm ≡ Some back
    → HasGap prefixes r rest immediately back body body.instr.immediate
body_immediate prefixes (row.Alone operation) rest body back h e =
    no_immediate prefixes (row.Alone operation) rest body back (ap (λ (b : Body). b.imm) h.1) e
body_immediate prefixes row.Nop rest body back h e =
    no_immediate prefixes row.Nop rest body back (ap (λ (b : Body). b.imm) h.1) e
body_immediate prefixes row.EndBranch rest body back h e =
    no_immediate prefixes row.EndBranch rest body back (ap (λ (b : Body). b.imm) h.1) e
body_immediate prefixes (row.Number action s) rest body back h e =
    numbered_immediate action s prefixes rest body back h e
body_immediate prefixes (row.Register action) rest body back h e =
    operated_immediate prefixes (row.Register action) size.Zero rest body back h (λ o b x. x) e
body_immediate prefixes (row.Group group s) rest body back h e =
    operated_immediate prefixes (row.Group group s) s rest body back h (λ o b x. x) e

-- ---- the whole instruction

before_some : (o : Option ℕ) (len n : ℕ) → before len o ≡ Some n → (back : ℕ) × (o ≡ Some back) × (len - back ≡ n)
before_some None len n e = absurd cc
before_some (Some back) len n e = (back, refl, cc)

-- the field of an instruction that was read, and what another number there gives
pub record Around (bytes four tail : List ℕ) (body : Body) (len : ℕ) (change : ℕ → Body → Body) (number : ℕ) : Type 0
  where
    pub number-is : number ≡ field_of four
    pub other : (o : List ℕ) → length o ≡ 4
        → decoded (bytes ++ (o ++ tail)) ≡ Some (placed len (change (field_of o) body))

regrouped : (left four right rest whole : List ℕ) → whole ≡ left ++ (four ++ right)
    → left ++ (four ++ (right ++ rest)) ≡ whole ++ rest
regrouped left four right rest whole parts = rw (parts) (simp append_assoc)

new_whole : (left o right rest bytes tail : List ℕ) → left ≡ bytes → right ++ rest ≡ tail
    → (left ++ (o ++ right)) ++ rest ≡ bytes ++ (o ++ tail)
new_whole left o right rest bytes tail same end = rw (← same, ← end) (simp append_assoc)

around : (bytes four tail whole rest : List ℕ) (body : Body) (change : ℕ → Body → Body) (number back : ℕ)
    (p : HasParts whole body) → length whole ≤ 15
    → whole ++ rest ≡ bytes ++ (four ++ tail) → length four ≡ 4
    → HasGap (prefixes_of p.marks p.rex) p.row p.rest change back body number
    → length whole - back ≡ length bytes → Around bytes four tail body (length whole) change number
around bytes four tail whole rest body change number back p short same four-length gap at =
    let left = p.marks ++ (option_to_list p.rex ++ (p.opcode ++ gap.left)) in
    let parts : whole ≡ left ++ (gap.four ++ gap.right) = p.whole
    ∙ ap (λ (t : List ℕ). p.marks ++ (option_to_list p.rex ++ (p.opcode ++ t))) gap.whole ∙ simp append_assoc in
    let len : length left ≡ length bytes =
    omega (
      arith,
      at,
      ap length parts,
      length-append left (gap.four ++ gap.right),
      length-append gap.four gap.right,
      gap.right-length,
      gap.four-length,
    ) in
    let grouped : left ++ (gap.four ++ (gap.right ++ rest)) ≡ bytes ++ (four ++ tail) =
    regrouped left gap.four gap.right rest whole parts ∙ same in
    let first = same_split left bytes (gap.four ++ (gap.right ++ rest)) (four ++ tail) grouped len in
    let second = same_split gap.four four (gap.right ++ rest) tail first.1 (gap.four-length ∙ sym four-length) in
    record {
      number-is = gap.number-is ∙ ap field_of second.0;
      other = λ o o-length.
          let new = left ++ (o ++ gap.right) in
          let new-length : length new ≡ length whole = omega (
            arith,
            ap length parts,
            length-append left
                (gap.four ++ gap.right),
            length-append gap.four gap.right,
            length-append left (o ++ gap.right),
            length-append o gap.right,
            gap.four-length,
          ) in
          let new-parts : HasParts new (change (field_of o) body) = record {
            marks = p.marks;
            rex = p.rex;
            opcode = p.opcode;
            row = p.row;
            rest = gap.left ++ (o ++ gap.right);
            whole = simp append_assoc;
            are_marks = p.are_marks;
            is_rex = p.is_rex;
            row-is = p.row-is;
            takes = p.takes;
            has_body = gap.other o o-length;
          } in
          let spells : Spells new (placed (length whole) (change (field_of o) body)) =
          record {
            body = change (field_of o) body;
            short = omega arith;
            parts = new-parts;
            decoded-is = ap (λ (n : ℕ). placed n (change (field_of o) body)) (sym new-length);
          } in
          ap decoded (sym (new_whole left o gap.right rest bytes tail first.0 second.1))
          ∙ decoded_again new (placed (length whole) (change (field_of o) body)) rest spells;
    }

pub displacement_around : (bytes four tail : List ℕ) (d : Decoded) → length four ≡ 4
    → decoded (bytes ++ (four ++ tail)) ≡ Some d
    → d.disp ≡ Some (length bytes)
    → (d.instr.displacement ≡ field_of four)
    × ((o : List ℕ) → length o ≡ 4 → decoded (bytes ++ (o ++ tail)) ≡ Some (with_displacement (field_of o) d))
displacement_around bytes four tail d four-length e at =
    let whole = bytes ++ (four ++ tail) in
    let spells = (decoded_found whole d e).spells in
    let front = take d.len whole in
    let place = before_some spells.body.disp (length front) (length bytes)
    (ap (λ (x : Decoded). x.disp) (sym spells.decoded-is) ∙ at) in
    let p = spells.parts in
    let gap = body_displaced (prefixes_of p.marks p.rex) p.row p.rest spells.body place.0 p.has_body place.1 in
    let a = around bytes four tail front
    (drop d.len whole) spells.body displaced spells.body.instr.displacement place.0 p spells.short
    (take-append-drop d.len whole) four-length gap place.2 in (
      ap (λ (x : Decoded). x.instr.displacement) spells.decoded-is ∙ a.number-is,
      λ o len. a.other o len ∙ ap (λ (x : Decoded). Some (with_displacement (field_of o) x)) (sym spells.decoded-is),
    )

pub immediate_around : (bytes four tail : List ℕ) (d : Decoded) → length four ≡ 4
    → decoded (bytes ++ (four ++ tail)) ≡ Some d → d.imm ≡ Some (length bytes)
    → (d.instr.immediate ≡ field_of four)
    × ((o : List ℕ) → length o ≡ 4 → decoded (bytes ++ (o ++ tail)) ≡ Some (with_immediate (field_of o) d))
immediate_around bytes four tail d four-length e at =
    let whole = bytes ++ (four ++ tail) in
    let spells = (decoded_found whole d e).spells in
    let front = take d.len whole in
    let place = before_some spells.body.imm (length front) (length bytes)
    (ap (λ (x : Decoded). x.imm) (sym spells.decoded-is) ∙ at) in
    let p = spells.parts in
    let gap = body_immediate (prefixes_of p.marks p.rex) p.row p.rest spells.body place.0 p.has_body place.1 in
    let a = around bytes four tail front
    (drop d.len whole) spells.body immediately spells.body.instr.immediate place.0 p spells.short
    (take-append-drop d.len whole) four-length gap place.2 in (
      ap (λ (x : Decoded). x.instr.immediate) spells.decoded-is ∙ a.number-is,
      λ o len. a.other o len ∙ ap (λ (x : Decoded). Some (with_immediate (field_of o) x)) (sym spells.decoded-is),
    )
