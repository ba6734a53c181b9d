-- Prefixes: what is read stands there, and what stands there is read.
use Rattle.std.proofs.Common.{◌≡◌, ℕ, ◌+◌, ◌/◌, ◌≤◌, Bool, true, false, cond, eqb, List, [], ◌∷◌, ◌++◌, Option, Some}
use Rattle.std.proofs.Common.{None, Ok, refl, sym, ap, subst, ◌∙◌, arith, inl, inr}
use Rattle.std.specs.Prelude.{not, ◌&&◌, ◌||◌, IfSome}
use Rattle.std.specs.Option.{option_map, option_to_list}
use Rattle.std.specs.List.{list_any, list_all}
use Rattle.std.proofs.lemmas.Bool.{eqb-true, eq-eqb, ne_eqb, and_parts, or_parts, or_from, or_cases}
use Rattle.amd64_subset.specs.declared.fault.Fault.TheVariants.{Wrong}
use Rattle.amd64_subset.specs.declared.prefix.Rex.{Rex}
use Rattle.amd64_subset.specs.declared.prefix.Prefixes.{Prefixes}
use Rattle.amd64_subset.specs.Prefix.{rex_of, bits_of, no_prefixes, takes_only_nops, marks_at, possible_at, rex_at}
use Rattle.amd64_subset.specs.Prefix.{prefixes_at}
use Rattle.amd64_subset.specs.Spelling.{is_mark, fs_count, AreMarks, prefixes_of}
use Rattle.amd64_subset.proofs.Steps.{bind_ok, kept, chosen, ok_is}

abbrev pub has : ℕ → List ℕ → Bool
has byte bytes = list_any (λ x. eqb x byte) bytes

abbrev pub prefixed : Bool → Bool → Bool → Option Rex → Prefixes
prefixed t o c r = record { thread_pointer = t; operand_size = o; code_segment = c; rex = r }

-- the prefixes before these marks and theirs
abbrev pub merged : Bool → Bool → Bool → Option Rex → List ℕ → Prefixes
merged t o c r marks = prefixed (t || has 0x64 marks) (o || has 0x66 marks) (c || has 0x2e marks) r

-- FS stands at most once, here and before
abbrev pub Once : Bool → List ℕ → Type 0
Once t marks = cond t 1 0 + fs_count marks ≤ 1

pub record MarksTaken (t o c : Bool) (r : Option Rex) (bytes : List ℕ) (q : Prefixes) (rest : List ℕ) : Type 0 where
  pub marks : List ℕ
  pub whole : bytes ≡ marks ++ rest
  pub each : list_all is_mark marks ≡ true
  pub once : Once t marks
  pub is : q ≡ merged t o c r marks

or_false : (b : Bool) → (b || false) ≡ b
or_false true = refl
or_false false = refl

or_true : (b : Bool) → (b || true) ≡ true
or_true true = refl
or_true false = refl

none_taken : (t o c : Bool) (r : Option Rex) (bytes : List ℕ) (q : Prefixes) (rest : List ℕ) → prefixed t o c r ≡ q
    → bytes ≡ rest → MarksTaken t o c r bytes q rest
none_taken t o c r bytes q rest is same = record {
  marks = [];
  whole = same;
  each = refl;
  once = elim t as (λ b. cond b 1 0 + 0 ≤ 1) [ true ↦ omega arith | false ↦ omega arith ];
  is = sym is ∙ rw (or_false t, or_false o, or_false c) refl;
}

fs_taken : (t o c : Bool) (r : Option Rex) (bytes : List ℕ) (q : Prefixes) (rest : List ℕ) → t ≡ false
    → MarksTaken true o c r bytes q rest → MarksTaken t o c r (0x64 ∷ bytes) q rest
fs_taken true o c r bytes q rest e h = absurd cc
fs_taken false o c r bytes q rest e h =
    record {
      marks = 0x64 ∷ h.marks;
      whole = ap (λ (x : List ℕ). 0x64 ∷ x) h.whole;
      each = h.each;
      once = omega (arith, h.once);
      is = h.is;
    }

operand_size_taken : (t o c : Bool) (r : Option Rex) (bytes : List ℕ) (q : Prefixes) (rest : List ℕ)
    → MarksTaken t true c r bytes q rest → MarksTaken t o c r (0x66 ∷ bytes) q rest
operand_size_taken t o c r bytes q rest h =
    record {
      marks = 0x66 ∷ h.marks;
      whole = ap (λ (x : List ℕ). 0x66 ∷ x) h.whole;
      each = h.each;
      once = h.once;
      is = h.is ∙ rw (or_true o) refl;
    }

code_segment_taken : (t o c : Bool) (r : Option Rex) (bytes : List ℕ) (q : Prefixes) (rest : List ℕ)
    → MarksTaken t o true r bytes q rest → MarksTaken t o c r (0x2e ∷ bytes) q rest
code_segment_taken t o c r bytes q rest h =
    record {
      marks = 0x2e ∷ h.marks;
      whole = ap (λ (x : List ℕ). 0x2e ∷ x) h.whole;
      each = h.each;
      once = h.once;
      is = h.is ∙ rw (or_true c) refl;
    }

pub marks_takes : (t o c : Bool) (r : Option Rex) (bytes : List ℕ) (q : Prefixes) (rest : List ℕ)
    → marks_at (prefixed t o c r) bytes ≡ Ok (q, rest) → MarksTaken t o c r bytes q rest
marks_takes t o c r [] q rest e = let is = ok_is _ (q, rest) e in
    none_taken t o c r [] q rest (ap (λ (p : Prefixes × List ℕ). p.0) is) (ap (λ (p : Prefixes × List ℕ). p.1) is)
marks_takes t o c r (b ∷ bytes) q rest e =
    elim (chosen (eqb b 0x64) _ _ _ e) [
      | inl fs ↦
          let k = kept (t || c) Wrong _ (q, rest) fs.1 in
          subst (λ (x : ℕ). MarksTaken t o c r (x ∷ bytes) q rest) (sym (eqb-true b 0x64 fs.0))
          (fs_taken t o c r bytes q rest (or_parts t c k.0).0 (marks_takes true o c r bytes q rest k.1))
      | inr h ↦ elim (chosen (eqb b 0x66) _ _ _ h.1) [
        | inl size ↦ subst (λ (x : ℕ). MarksTaken t o c r (x ∷ bytes) q rest) (sym (eqb-true b 0x66 size.0))
            (operand_size_taken t o c r bytes q rest (marks_takes t true c r bytes q rest size.1))
        | inr k ↦ elim (chosen (eqb b 0x2e) _ _ _ k.1) [
          | inl cs ↦
              let l = kept t Wrong _ (q, rest) cs.1 in
              subst (λ (x : ℕ). MarksTaken t o c r (x ∷ bytes) q rest) (sym (eqb-true b 0x2e cs.0))
              (code_segment_taken t o c r bytes q rest (marks_takes t o true r bytes q rest l.1))
          | inr l ↦ let is = ok_is _ (q, rest) l.1 in
              none_taken t o c r (b ∷ bytes) q rest (ap (λ (p : Prefixes × List ℕ). p.0) is)
              (ap (λ (p : Prefixes × List ℕ). p.1) is)
        ]
      ]
    ]

-- the bytes begin with no prefix before REX
pub data Starts : List ℕ → Type 0 where
  starts : (first : ℕ) (more : List ℕ) → is_mark first ≡ false → Starts (first ∷ more)

stop_at : (t o c : Bool) (r : Option Rex) (rest : List ℕ) → Starts rest
    → marks_at (prefixed t o c r) rest ≡ Ok (prefixed t o c r, rest)
stop_at t o c r rest (starts first more clear) =
    let p = or_parts (eqb first 0x64 || eqb first 0x66) (eqb first 0x2e) clear in
    let q = or_parts (eqb first 0x64) (eqb first 0x66) p.0 in
    rw (q.0, q.1, p.1) refl

-- FS and 2e do not stand together
abbrev Apart : Bool → Bool → List ℕ → Type 0
Apart t c marks = ((t || has 0x64 marks) && (c || has 0x2e marks)) ≡ false

-- reading goes over these marks
abbrev Over : Bool → Bool → Bool → Option Rex → List ℕ → List ℕ → Type 0
Over t o c r marks rest = marks_at (prefixed t o c r) (marks ++ rest) ≡ Ok (merged t o c r marks, rest)

fs_again : (t o c : Bool) (r : Option Rex) (marks rest : List ℕ)
    → (Once true marks → Apart true c marks → Over true o c r marks rest) → Once t (0x64 ∷ marks)
    → Apart t c (0x64 ∷ marks) → Over t o c r (0x64 ∷ marks) rest
fs_again true o c r marks rest next once apart = absurd (omega (arith, once))
fs_again false o true r marks rest next once apart = absurd cc
fs_again false o false r marks rest next once apart = next (omega (arith, once)) apart

operand_size_again : (t o c : Bool) (r : Option Rex) (marks rest : List ℕ)
    → (Once t marks → Apart t c marks → Over t true c r marks rest)
    → Once t (0x66 ∷ marks) → Apart t c (0x66 ∷ marks) → Over t o c r (0x66 ∷ marks) rest
operand_size_again t o c r marks rest next once apart = rw (or_true o) (next once apart)

code_segment_again : (t o c : Bool) (r : Option Rex) (marks rest : List ℕ)
    → (Once t marks → Apart t true marks → Over t o true r marks rest)
    → Once t (0x2e ∷ marks) → Apart t c (0x2e ∷ marks) → Over t o c r (0x2e ∷ marks) rest
code_segment_again true o c r marks rest next once apart = absurd (let e = rw (or_true c) at apart in cc)
code_segment_again false o c r marks rest next once apart = rw (or_true c) (next once (rw (or_true c) at apart))

pub marks_again : (t o c : Bool) (r : Option Rex) (marks rest : List ℕ) → list_all is_mark marks ≡ true → Starts rest
    → Once t marks → Apart t c marks → Over t o c r marks rest
marks_again t o c r [] rest each stop once apart = rw (or_false t, or_false o, or_false c) (stop_at t o c r rest stop)
marks_again t o c r (b ∷ marks) rest each stop once apart =
    let p = and_parts (is_mark b) _ each in
    let P : ℕ → Type 0 = λ x. Once t (x ∷ marks) → Apart t c (x ∷ marks) → Over t o c r (x ∷ marks) rest in
    elim (or_cases _ _ p.0) [
      | inl h ↦ elim (or_cases _ _ h) [
        | inl fs ↦ subst P (sym (eqb-true b 0x64 fs))
            (fs_again t o c r marks rest (marks_again true o c r marks rest p.1 stop)) once apart
        | inr size ↦ subst P (sym (eqb-true b 0x66 size))
            (operand_size_again t o c r marks rest (marks_again t true c r marks rest p.1 stop)) once apart
      ]
      | inr cs ↦ subst P (sym (eqb-true b 0x2e cs))
          (code_segment_again t o c r marks rest (marks_again t o true r marks rest p.1 stop)) once apart
    ]

-- ---- REX

pub record RexTaken (t o c : Bool) (bytes : List ℕ) (q : Prefixes) (rest : List ℕ) : Type 0 where
  pub rex : Option ℕ
  pub whole : bytes ≡ option_to_list rex ++ rest
  pub is_rex : IfSome rex (λ byte. byte / 16 ≡ 4)
  pub is : q ≡ prefixed t o c (option_map rex_of rex)

possible_takes : (p : Prefixes) (bytes : List ℕ) (q : Prefixes) (rest : List ℕ) → possible_at p bytes ≡ Ok (q, rest)
    → (q ≡ p) × (bytes ≡ rest)
possible_takes p bytes q rest e =
    let k = kept (p.thread_pointer && takes_only_nops p) Wrong _ (q, rest) e in
    let is = ok_is (p, bytes) (q, rest) k.1 in
    (ap (λ (x : Prefixes × List ℕ). x.0) (sym is), ap (λ (x : Prefixes × List ℕ). x.1) is)

pub rex_takes : (t o c : Bool) (bytes : List ℕ) (q : Prefixes) (rest : List ℕ)
    → rex_at (prefixed t o c None) bytes ≡ Ok (q, rest) → RexTaken t o c bytes q rest
unfolding rex_at
rex_takes t o c [] q rest e = absurd cc
rex_takes t o c (b ∷ bytes) q rest e =
    elim (chosen (eqb (b / 16) 4) _ _ _ e) [
      | inl h ↦
          let p = possible_takes (prefixed t o c (Some (rex_of b))) bytes q rest h.1 in
          record { rex = Some b; whole = ap (λ (x : List ℕ). b ∷ x) p.1; is_rex = eqb-true (b / 16) 4 h.0; is = p.0 }
      | inr h ↦
          let p = possible_takes (prefixed t o c None) (b ∷ bytes) q rest h.1 in
          record { rex = None; whole = p.1; is_rex = tt; is = p.0 }
    ]

-- the bytes begin with an opcode
pub data Begins : List ℕ → Type 0 where
  begins : (first : ℕ) (more : List ℕ) → is_mark first ≡ false → eqb (first / 16) 4 ≡ false → Begins (first ∷ more)

-- something may follow these prefixes
abbrev pub Possible : Prefixes → Type 0
Possible p = (p.thread_pointer && takes_only_nops p) ≡ false

possible_none : (t o c : Bool) (bytes rest : List ℕ) → Begins bytes → Possible (prefixed t o c None)
    → rex_at (prefixed t o c None) bytes ≡ Ok (prefixed t o c None, bytes)
unfolding rex_at
possible_none t o c bytes rest (begins first more clear other) possible = rw (other, possible) refl

pub rex_again : (t o c : Bool) (rex : Option ℕ) (rest : List ℕ) → IfSome rex (λ byte. byte / 16 ≡ 4) → Begins rest
    → Possible (prefixed t o c (option_map rex_of rex))
    → rex_at (prefixed t o c None) (option_to_list rex ++ rest) ≡ Ok (prefixed t o c (option_map rex_of rex), rest)
unfolding rex_at
rex_again t o c None rest is_rex begin possible = possible_none t o c rest rest begin possible
rex_again t o c (Some byte) rest is_rex begin possible = rw (eq-eqb (byte / 16) 4 is_rex, possible) refl

-- ---- all prefixes

pub rex_starts : (rex : Option ℕ) (rest : List ℕ) → IfSome rex (λ byte. byte / 16 ≡ 4) → Begins rest
    → Starts (option_to_list rex ++ rest)
rex_starts None rest is_rex (begins first more clear other) = starts first more clear
rex_starts (Some byte) rest is_rex begin = starts byte rest (or_from _ _
    (or_from _ _ (ne_eqb byte 0x64 (λ same. omega arith)) (ne_eqb byte 0x66 (λ same. omega arith)))
    (ne_eqb byte 0x2e (λ same. omega arith)))

apart_from : (t o c w : Bool) → (t && (c || (o && not w))) ≡ false → (t && c) ≡ false
apart_from true o true w e = absurd cc
apart_from true o false w e = refl
apart_from false o c w e = refl

pub record PrefixesTaken (bytes : List ℕ) (q : Prefixes) (rest : List ℕ) : Type 0 where
  pub marks : List ℕ
  pub rex : Option ℕ
  pub whole : bytes ≡ marks ++ (option_to_list rex ++ rest)
  pub are_marks : AreMarks marks
  pub is_rex : IfSome rex (λ byte. byte / 16 ≡ 4)
  pub is : q ≡ prefixes_of marks rex

pub prefixes_takes : (bytes : List ℕ) (q : Prefixes) (rest : List ℕ) → prefixes_at bytes ≡ Ok (q, rest)
    → PrefixesTaken bytes q rest
unfolding prefixes_at
prefixes_takes bytes q rest e =
    let read = bind_ok (marks_at no_prefixes bytes) _ (q, rest) e in
    let marks = marks_takes false false false None bytes read.0.0 read.0.1 read.1 in
    let t = has 0x64 marks.marks in
    let o = has 0x66 marks.marks in
    let c = has 0x2e marks.marks in
    let at : rex_at (prefixed t o c None) read.0.1 ≡ Ok (q, rest) =
    ap (λ (p : Prefixes). rex_at p read.0.1) (sym marks.is) ∙ read.2 in
    let rex = rex_takes t o c read.0.1 q rest at in
    record {
      marks = marks.marks;
      rex = rex.rex;
      whole = marks.whole ∙ ap (λ (x : List ℕ). marks.marks ++ x) rex.whole;
      are_marks = (marks.each, omega (arith, marks.once));
      is_rex = rex.is_rex;
      is = rex.is;
    }

pub prefixes_again : (marks : List ℕ) (rex : Option ℕ) (rest : List ℕ) → AreMarks marks
    → IfSome rex (λ byte. byte / 16 ≡ 4) → Begins rest
    → Possible (prefixes_of marks rex)
    → prefixes_at (marks ++ (option_to_list rex ++ rest)) ≡ Ok (prefixes_of marks rex, rest)
unfolding prefixes_at
prefixes_again marks rex rest are is_rex begin possible =
    rw (marks_again false false false None marks (option_to_list rex ++ rest) are.0 (rex_starts rex rest is_rex begin)
    (omega (arith, are.1))
    (apart_from (has 0x64 marks) (has 0x66 marks) (has 0x2e marks) (bits_of (prefixes_of marks rex)).wide possible))
    (rex_again (has 0x64 marks) (has 0x66 marks) (has 0x2e marks) rex rest is_rex begin possible)
