-- How many bytes are missing: prefixes, and the whole.
use Rattle.std.proofs.Common.{◌≡◌, ℕ, ◌+◌, ◌/◌, ◌≤◌, Bool, true, false, cond, eqb, List, [], ◌∷◌, ◌++◌, length, Some}
use Rattle.std.proofs.Common.{None, Ok, Err, refl, sym, subst, ◌∙◌, arith}
use Rattle.std.specs.Prelude.{◌&&◌, ◌||◌}
use Rattle.std.specs.List.{list_all}
use Rattle.std.proofs.lemmas.Bool.{and_from}
use Rattle.amd64_subset.specs.declared.fault.Fault.TheVariants.{Short, Wrong}
use Rattle.amd64_subset.specs.declared.prefix.Prefixes.{Prefixes}
use Rattle.amd64_subset.specs.declared.row.Row.{Row}
use Rattle.amd64_subset.specs.declared.row.Row.TheVariants as row
use Rattle.amd64_subset.specs.declared.row.Action.TheVariants as action
use Rattle.amd64_subset.specs.declared.meaning.Body.{Body}
use Rattle.amd64_subset.specs.Prefix.{rex_of, no_bits, no_prefixes, takes_only_nops, least_opening, marks_at}
use Rattle.amd64_subset.specs.Prefix.{possible_at, rex_at, prefixes_at}
use Rattle.amd64_subset.specs.Row.{row_of, fixed_row_of, takes}
use Rattle.amd64_subset.specs.Reading.{Read, ◌>>=◌}
use Rattle.amd64_subset.specs.Decoding.{row_at, body_at, instruction_at}
use Rattle.amd64_subset.specs.Spelling.{named}
use Rattle.amd64_subset.proofs.Parts.{row_again}
use Rattle.amd64_subset.proofs.Marks.{prefixed, Possible}
use Rattle.amd64_subset.proofs.Missing.{is_byte, Fills, Cuts, Completes, bind_assoc, short_is, least_of}
use Rattle.amd64_subset.proofs.MissingCode.{coded, coded_least, HasRex, coded_cuts_end, coded_cuts, coded_completes}
use Rattle.amd64_subset.proofs.MissingCode.{code_end_completes, Enough, register_enough, nop_enough}

-- what follows the prefixes before REX
abbrev pub opened : Prefixes → List ℕ → Read Body
opened marks bytes = rex_at marks bytes >>= (λ q. coded q.0 q.1)

-- all prefixes, and what follows them
abbrev pub marked : Prefixes → List ℕ → Read Body
marked p bytes = marks_at p bytes >>= (λ q. opened q.0 q.1)

-- what follows REX, or its absence
abbrev allowed : Prefixes → List ℕ → Read Body
allowed p bytes = cond (p.thread_pointer && takes_only_nops p) (Err Wrong) (coded p bytes)

abbrev with_rex : Prefixes → ℕ → Prefixes
with_rex marks byte = record marks { rex = Some (rex_of byte) }

opened-end : (marks : Prefixes) → opened marks [] ≡ Err (Short (least_opening marks))
unfolding rex_at
opened-end marks = refl

allowed-bind : (p : Prefixes) (bytes : List ℕ) → (possible_at p bytes >>= (λ q. coded q.0 q.1)) ≡ allowed p bytes
allowed-bind p bytes = go (p.thread_pointer && takes_only_nops p)
  where
    read : Read Prefixes
    read = Ok (p, bytes)

    go : (b : Bool) → (cond b (Err Wrong) read >>= (λ q. coded q.0 q.1)) ≡ cond b (Err Wrong) (coded p bytes)
    go true = refl
    go false = refl

opened-ways : (marks : Prefixes) (b : ℕ) (bytes : List ℕ)
    → opened marks (b ∷ bytes) ≡ cond (eqb (b / 16) 4) (allowed (with_rex marks b) bytes) (allowed marks (b ∷ bytes))
unfolding rex_at
opened-ways marks b bytes = go (eqb (b / 16) 4)
  where
    go : (c : Bool) → (cond c (possible_at (with_rex marks b) bytes) (possible_at marks (b ∷ bytes)) >>=
        (λ q. coded q.0 q.1)) ≡ cond c (allowed (with_rex marks b) bytes) (allowed marks (b ∷ bytes))
    go true = allowed-bind (with_rex marks b) bytes
    go false = allowed-bind marks (b ∷ bytes)

-- ---- the least

allowed_ok : (p : Prefixes) (bytes : List ℕ) (y : Body × List ℕ) → allowed p bytes ≡ Ok y
    → Possible p × (coded p bytes ≡ Ok y)
allowed_ok p bytes y e = go (p.thread_pointer && takes_only_nops p) refl e
  where
    go : (b : Bool) → (p.thread_pointer && takes_only_nops p) ≡ b → cond b (Err Wrong) (coded p bytes) ≡ Ok y
        → Possible p × (coded p bytes ≡ Ok y)
    go true is e = absurd cc
    go false is e = (is, e)

rex_bound : (t o n : Bool) → (t && n) ≡ false → cond t (cond o 3 2) 1 ≤ 1 + cond (n && true) 3 (cond t 2 1)
rex_bound true o true e = absurd cc
rex_bound true true false e = omega arith
rex_bound true false false e = omega arith
rex_bound false o true e = omega arith
rex_bound false o false e = omega arith

plain_bound : (t o c : Bool) → (t && (c || (o && true))) ≡ false
    → cond t (cond o 3 2) 1 ≤ cond ((c || (o && true)) && false) 3 (cond t 2 1)
plain_bound true o true e = absurd cc
plain_bound true true false e = absurd cc
plain_bound true false false e = omega arith
plain_bound false true true e = omega arith
plain_bound false true false e = omega arith
plain_bound false false true e = omega arith
plain_bound false false false e = omega arith

opened_least : (t o c : Bool) (bytes : List ℕ) (x : Body) (rest : List ℕ)
    → opened (prefixed t o c None) bytes ≡ Ok (x, rest)
    → least_opening (prefixed t o c None) + length rest ≤ length bytes
opened_least t o c [] x rest e = absurd (let f = sym (opened-end (prefixed t o c None)) ∙ e in cc)
opened_least t o c (b ∷ bytes) x rest e = let bound : cond t (cond o 3 2) 1 + length rest ≤ 1 + length bytes =
    go (eqb (b / 16) 4) (sym (opened-ways (prefixed t o c None) b bytes) ∙ e) in omega (arith, bound)
  where
    go : (d : Bool) → cond d (allowed (with_rex (prefixed t o c None) b) bytes)
        (allowed (prefixed t o c None) (b ∷ bytes)) ≡ Ok (x, rest)
        → cond t (cond o 3 2) 1 + length rest ≤ 1 + length bytes
    go true e =
        let q = with_rex (prefixed t o c None) b in
        let a = allowed_ok q bytes (x, rest) e in
        omega (arith, coded_least q bytes x rest a.1, rex_bound t o (takes_only_nops q) a.0)
    go false e =
        let q = prefixed t o c None in
        let a = allowed_ok q (b ∷ bytes) (x, rest) e in
        omega (arith, coded_least q (b ∷ bytes) x rest a.1, plain_bound t o c a.0)

-- ---- cuts

allowed_cuts : (p : Prefixes) (bytes : List ℕ) → Cuts (coded p) bytes → Cuts (allowed p) bytes
allowed_cuts p bytes cuts tail x rest e inside =
    let a = allowed_ok p (bytes ++ tail) (x, rest) e in
    let h = cuts tail x rest a.1 inside in
    record { missing = h.missing; is = rw (a.0) (h.is); bound = h.bound }

rexed_cuts : (p : Prefixes) (bytes : List ℕ) → HasRex p → Cuts (coded p) bytes
rexed_cuts p [] has = coded_cuts_end p has
rexed_cuts p (a ∷ bytes) has = coded_cuts p a bytes

opened_cuts : (t o c : Bool) (b : ℕ) (bytes : List ℕ) → Cuts (λ y. opened (prefixed t o c None) (b ∷ y)) bytes
opened_cuts t o c b bytes tail x rest e inside =
    let h = go (eqb (b / 16) 4) tail x rest (sym (opened-ways (prefixed t o c None) b (bytes ++ tail)) ∙ e) inside in
    record { missing = h.missing; is = opened-ways (prefixed t o c None) b bytes ∙ h.is; bound = h.bound }
  where
    go : (d : Bool) → Cuts (λ y. cond d (allowed (with_rex (prefixed t o c None) b) y)
        (allowed (prefixed t o c None) (b ∷ y))) bytes
    go true = allowed_cuts (with_rex (prefixed t o c None) b) bytes
        (rexed_cuts (with_rex (prefixed t o c None) b) bytes refl)
    go false = allowed_cuts (prefixed t o c None) (b ∷ bytes) (coded_cuts (prefixed t o c None) b bytes)

-- ---- what completes

allowed_completes : (p : Prefixes) (bytes : List ℕ) → Completes (allowed p) bytes
allowed_completes p bytes n e = go (p.thread_pointer && takes_only_nops p) refl e
  where
    go : (b : Bool) → (p.thread_pointer && takes_only_nops p) ≡ b → cond b (Err Wrong) (coded p bytes) ≡ Err (Short n)
        → Fills (allowed p) bytes n
    go true is e = absurd cc
    go false is e =
        let h = coded_completes p bytes is n e in
        record {
          tail = h.tail;
          value = h.value;
          tail-length = h.tail-length;
          are_bytes = h.are_bytes;
          read = rw (is) (h.read);
        }

opened_completes : (t o c : Bool) (b : ℕ) (bytes : List ℕ) → Completes (λ y. opened (prefixed t o c None) (b ∷ y)) bytes
opened_completes t o c b bytes n e =
    let h = go (eqb (b / 16) 4) n (sym (opened-ways (prefixed t o c None) b bytes) ∙ e) in
    record {
      tail = h.tail;
      value = h.value;
      tail-length = h.tail-length;
      are_bytes = h.are_bytes;
      read = opened-ways (prefixed t o c None) b (bytes ++ h.tail) ∙ h.read;
    }
  where
    go : (d : Bool) → Completes
        (λ y. cond d (allowed (with_rex (prefixed t o c None) b) y) (allowed (prefixed t o c None) (b ∷ y))) bytes
    go true n e = allowed_completes (with_rex (prefixed t o c None) b) bytes n e
    go false n e = let h = allowed_completes (prefixed t o c None) (b ∷ bytes) n e in
        record { tail = h.tail; value = h.value; tail-length = h.tail-length; are_bytes = h.are_bytes; read = h.read }

-- an opcode byte that is no REX, where nothing is refused
with_first : (t o c : Bool) (r : Row) (a n : ℕ) → row_of no_bits a ≡ Some r → takes r (prefixed t o c None) ≡ true
    → Possible (prefixed t o c None)
    → eqb (a / 16) 4 ≡ false → is_byte a ≡ true → 1 + least_of r ≡ n → ((more : List ℕ)
    → marked (prefixed t o c None) (a ∷ more) ≡ opened (prefixed t o c None) (a ∷ more))
    → Enough (prefixed t o c None) r → Fills (marked (prefixed t o c None)) [] n
unfolding named
with_first t o c r a n is fits possible plain are len first h = record {
  tail = a ∷ h.tail;
  value = h.value;
  tail-length = omega (arith, h.tail-length);
  are_bytes = and_from (is_byte a) (list_all is_byte h.tail) are h.are_bytes;
  read = first h.tail ∙ opened-ways (prefixed t o c None) a h.tail
      ∙ rw (plain, possible, row_again (prefixed t o c None) (a ∷ []) r h.tail is fits) (h.read);
}

-- 48 8b 00, 8b 00 or 90
opened_end_completes : (t o c : Bool) → (t && c) ≡ false
    → Fills (marked (prefixed t o c None)) [] (least_opening (prefixed t o c None))
unfolding row_of fixed_row_of takes
opened_end_completes true o true e = absurd cc
opened_end_completes true true false e =
    let q = with_rex (prefixed true true false None) 0x48 in
    let h = code_end_completes q refl in
    record {
      tail = 0x48 ∷ h.tail;
      value = h.value;
      tail-length = omega (arith, h.tail-length);
      are_bytes = h.are_bytes;
      read = opened-ways (prefixed true true false None) 0x48 h.tail ∙ h.read;
    }
opened_end_completes true false false e =
    with_first true false false (row.Register action.Load) 0x8b 2 refl refl refl refl refl refl (λ more. refl)
    (register_enough (prefixed true false false None) action.Load)
opened_end_completes false o c e =
    with_first false o c row.Nop 0x90 1 refl refl refl refl refl refl (λ more. refl)
    (nop_enough (prefixed false o c None))

-- ---- the prefixes before REX

-- where a byte goes: FS, 66, 2e, or behind them
abbrev way : Bool → Bool → Bool → Bool → Bool → Read Body → Read Body → Read Body → Read Body → Read Body
way b1 b2 b3 t c x y z w = cond b1 (cond (t || c) (Err Wrong) x) (cond b2 y (cond b3 (cond t (Err Wrong) z) w))

marked-end : (p : Prefixes) → marked p [] ≡ Err (Short (least_opening p))
marked-end p = opened-end p

marked-way : (t o c : Bool) (b : ℕ) (bytes : List ℕ)
    → marked (prefixed t o c None) (b ∷ bytes) ≡ way (eqb b 0x64) (eqb b 0x66) (eqb b 0x2e) t c
    (marked (prefixed true o c None) bytes) (marked (prefixed t true c None) bytes)
    (marked (prefixed t o true None) bytes) (opened (prefixed t o c None) (b ∷ bytes))
marked-way t o c b bytes =
    go (eqb b 0x64) (eqb b 0x66) (eqb b 0x2e) (t || c) t (marks_at (prefixed true o c None) bytes)
    (marks_at (prefixed t true c None) bytes) (marks_at (prefixed t o true None) bytes)
  where
    stop : Read Prefixes
    stop = Ok (prefixed t o c None, b ∷ bytes)

    go : (b1 b2 b3 d u : Bool) (x y z : Read Prefixes)
        → (cond b1 (cond d (Err Wrong) x) (cond b2 y (cond b3 (cond u (Err Wrong) z) stop)) >>=
        (λ q. opened q.0 q.1)) ≡ cond b1 (cond d (Err Wrong) (x >>= (λ q. opened q.0 q.1)))
        (cond b2 (y >>= (λ q. opened q.0 q.1))
        (cond b3 (cond u (Err Wrong) (z >>= (λ q. opened q.0 q.1))) (opened (prefixed t o c None) (b ∷ bytes))))
    go true b2 b3 true u x y z = refl
    go true b2 b3 false u x y z = refl
    go false true b3 d u x y z = refl
    go false false true d true x y z = refl
    go false false true d false x y z = refl
    go false false false d u x y z = refl

-- a way that was gone
way_ok : {P : Type 0} (b1 b2 b3 t c : Bool) (x y z w : Read Body) (v : Body × List ℕ) → way b1 b2 b3 t c x y z w ≡ Ok v
    → (x ≡ Ok v → P) → (y ≡ Ok v → P) → (z ≡ Ok v → P) → (w ≡ Ok v → P) → P
way_ok true b2 b3 true c x y z w v e f g h k = absurd cc
way_ok true b2 b3 false true x y z w v e f g h k = absurd cc
way_ok true b2 b3 false false x y z w v e f g h k = f e
way_ok false true b3 t c x y z w v e f g h k = g e
way_ok false false true true c x y z w v e f g h k = absurd cc
way_ok false false true false c x y z w v e f g h k = h e
way_ok false false false t c x y z w v e f g h k = k e

opening_fs : (t o : Bool) → cond t (cond o 3 2) 1 ≤ 1 + cond o 3 2
opening_fs true true = omega arith
opening_fs true false = omega arith
opening_fs false true = omega arith
opening_fs false false = omega arith

opening_size : (t o : Bool) → cond t (cond o 3 2) 1 ≤ 1 + cond t 3 1
opening_size true true = omega arith
opening_size true false = omega arith
opening_size false o = omega arith

marked_least : (t o c : Bool) (bytes : List ℕ) (x : Body) (rest : List ℕ)
    → marked (prefixed t o c None) bytes ≡ Ok (x, rest)
    → least_opening (prefixed t o c None) + length rest ≤ length bytes
marked_least t o c [] x rest e = absurd (let f = sym (marked-end (prefixed t o c None)) ∙ e in cc)
marked_least t o c (b ∷ bytes) x rest e =
    way_ok {P = least_opening (prefixed t o c None) + length rest ≤ length (b ∷ bytes)} (eqb b 0x64) (eqb b 0x66)
    (eqb b 0x2e) t c
    (marked (prefixed true o c None) bytes) (marked (prefixed t true c None) bytes)
    (marked (prefixed t o true None) bytes)
    (opened (prefixed t o c None) (b ∷ bytes)) (x, rest) (sym (marked-way t o c b bytes) ∙ e)
    (λ f. omega (arith, marked_least true o c bytes x rest f, opening_fs t o))
    (λ f. omega (arith, marked_least t true c bytes x rest f, opening_size t o))
    (λ f. omega (arith, marked_least t o true bytes x rest f))
    (λ f. opened_least t o c (b ∷ bytes) x rest f)

way_cuts : (b1 b2 b3 t c : Bool) (X Y Z W : List ℕ → Read Body) (bytes : List ℕ) → Cuts X bytes → Cuts Y bytes
    → Cuts Z bytes → Cuts W bytes
    → Cuts (λ y. way b1 b2 b3 t c (X y) (Y y) (Z y) (W y)) bytes
way_cuts true b2 b3 true c X Y Z W bytes p q r s tail x rest e inside = absurd cc
way_cuts true b2 b3 false true X Y Z W bytes p q r s tail x rest e inside = absurd cc
way_cuts true b2 b3 false false X Y Z W bytes p q r s tail x rest e inside = p tail x rest e inside
way_cuts false true b3 t c X Y Z W bytes p q r s tail x rest e inside = q tail x rest e inside
way_cuts false false true true c X Y Z W bytes p q r s tail x rest e inside = absurd cc
way_cuts false false true false c X Y Z W bytes p q r s tail x rest e inside = r tail x rest e inside
way_cuts false false false t c X Y Z W bytes p q r s tail x rest e inside = s tail x rest e inside

marked_cuts : (t o c : Bool) (bytes : List ℕ) → Cuts (marked (prefixed t o c None)) bytes
marked_cuts t o c [] tail x rest e inside =
    record {
      missing = least_opening (prefixed t o c None);
      is = marked-end (prefixed t o c None);
      bound = marked_least t o c tail x rest e;
    }
marked_cuts t o c (b ∷ bytes) tail x rest e inside =
    let h = way_cuts (eqb b 0x64) (eqb b 0x66) (eqb b 0x2e) t c (marked (prefixed true o c None))
    (marked (prefixed t true c None))
    (marked (prefixed t o true None)) (λ y. opened (prefixed t o c None) (b ∷ y)) bytes (marked_cuts true o c bytes)
    (marked_cuts t true c bytes)
    (marked_cuts t o true bytes) (opened_cuts t o c b bytes) tail x rest
    (sym (marked-way t o c b (bytes ++ tail)) ∙ e) inside in
    record { missing = h.missing; is = marked-way t o c b bytes ∙ h.is; bound = h.bound }

same_fills : (R Q : List ℕ → Read Body) (bytes : List ℕ) (n : ℕ)
    → ((more : List ℕ) → Q (bytes ++ more) ≡ R (bytes ++ more)) → Fills R bytes n → Fills Q bytes n
same_fills R Q bytes n same h =
    record {
      tail = h.tail;
      value = h.value;
      tail-length = h.tail-length;
      are_bytes = h.are_bytes;
      read = same h.tail ∙ h.read;
    }

way_completes : (b1 b2 b3 t c : Bool) (X Y Z W : List ℕ → Read Body) (bytes : List ℕ)
    → ((t || c) ≡ false → Completes X bytes) → Completes Y bytes
    → (t ≡ false → Completes Z bytes) → Completes W bytes
    → Completes (λ y. way b1 b2 b3 t c (X y) (Y y) (Z y) (W y)) bytes
way_completes true b2 b3 true c X Y Z W bytes p q r s n e = absurd cc
way_completes true b2 b3 false true X Y Z W bytes p q r s n e = absurd cc
way_completes true b2 b3 false false X Y Z W bytes p q r s n e = same_fills X _ bytes n (λ more. refl) (p refl n e)
way_completes false true b3 t c X Y Z W bytes p q r s n e = same_fills Y _ bytes n (λ more. refl) (q n e)
way_completes false false true true c X Y Z W bytes p q r s n e = absurd cc
way_completes false false true false c X Y Z W bytes p q r s n e = same_fills Z _ bytes n (λ more. refl) (r refl n e)
way_completes false false false t c X Y Z W bytes p q r s n e = same_fills W _ bytes n (λ more. refl) (s n e)

fs_apart : (t c : Bool) → (t || c) ≡ false → (true && c) ≡ false
fs_apart true c e = absurd cc
fs_apart false c e = e

segment_apart : (t : Bool) → t ≡ false → (t && true) ≡ false
segment_apart true e = e
segment_apart false e = refl

marked_completes : (t o c : Bool) → (t && c) ≡ false → (bytes : List ℕ) → Completes (marked (prefixed t o c None)) bytes
marked_completes t o c apart [] n e =
    let missing : least_opening (prefixed t o c None) ≡ n = short_is (sym (marked-end (prefixed t o c None)) ∙ e) in
    subst (λ (m : ℕ). Fills (marked (prefixed t o c None)) [] m) missing (opened_end_completes t o c apart)
marked_completes t o c apart (b ∷ bytes) n e =
    let h = way_completes (eqb b 0x64) (eqb b 0x66) (eqb b 0x2e) t c (marked (prefixed true o c None))
    (marked (prefixed t true c None))
    (marked (prefixed t o true None)) (λ y. opened (prefixed t o c None) (b ∷ y)) bytes
    (λ f. marked_completes true o c (fs_apart t c f) bytes)
    (marked_completes t true c apart bytes) (λ f. marked_completes t o true (segment_apart t f) bytes)
    (opened_completes t o c b bytes) n (sym (marked-way t o c b bytes) ∙ e) in
    record {
      tail = h.tail;
      value = h.value;
      tail-length = h.tail-length;
      are_bytes = h.are_bytes;
      read = marked-way t o c b (bytes ++ h.tail) ∙ h.read;
    }

-- ---- the whole

instruction-marked : (bytes : List ℕ) → instruction_at bytes ≡ marked no_prefixes bytes
unfolding instruction_at prefixes_at
instruction-marked bytes = go (marks_at no_prefixes bytes)
  where
    go : (m : Read Prefixes)
        → ((m >>= (λ q. rex_at q.0 q.1)) >>= (λ p. row_at p.0 p.1 >>= (λ r. body_at p.0 r.0 r.1)))
        ≡ (m >>= (λ q. opened q.0 q.1))
    go m = bind_assoc m (λ q. rex_at q.0 q.1) (λ p. coded p.0 p.1)

pub instruction_cuts : (bytes : List ℕ) → Cuts instruction_at bytes
instruction_cuts bytes tail x rest e inside =
    let h = marked_cuts false false false bytes tail x rest (sym (instruction-marked (bytes ++ tail)) ∙ e) inside in
    record { missing = h.missing; is = instruction-marked bytes ∙ h.is; bound = h.bound }

pub instruction_completes : (bytes : List ℕ) → Completes instruction_at bytes
instruction_completes bytes n e =
    let h = marked_completes false false false refl bytes n (sym (instruction-marked bytes) ∙ e) in
    record {
      tail = h.tail;
      value = h.value;
      tail-length = h.tail-length;
      are_bytes = h.are_bytes;
      read = instruction-marked (bytes ++ h.tail) ∙ h.read;
    }
