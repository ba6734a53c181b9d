-- How many bytes are missing: what stands behind an opcode.
use Rattle.std.proofs.Common.{◌≡◌, ℕ, zero, suc, ◌+◌, ◌-◌, ◌/◌, ◌%◌, ◌<◌, ◌≤◌, Bool, true, false, cond, eqb, ltb, List}
use Rattle.std.proofs.Common.{[], ◌∷◌, ◌++◌, length, take, drop, Option, Some, None, Result, Ok, Err}
use Rattle.std.proofs.Common.{refl, sym, ap, ◌∙◌, arith, inl, inr}
use Rattle.std.specs.Prelude.{not, ok_or, replicate}
use Rattle.std.specs.List.{list_all}
use Rattle.std.specs.Option.{option_to_list}
use Rattle.std.proofs.lemmas.Bool.{ltb-true, lt-ltb, le-ltb, not-false, and_from}
use Rattle.std.proofs.lemmas.List.{length-append, length-drop, length-replicate}
use Rattle.amd64_subset.specs.declared.fault.Fault.{Fault}
use Rattle.amd64_subset.specs.declared.fault.Fault.TheVariants.{Short, Wrong}
use Rattle.amd64_subset.specs.declared.instr.Operation.TheVariants as operation
use Rattle.amd64_subset.specs.declared.instr.Arithmetic.TheVariants.{Add}
use Rattle.amd64_subset.specs.declared.instr.Shift.TheVariants.{Left}
use Rattle.amd64_subset.specs.declared.prefix.Prefixes.{Prefixes}
use Rattle.amd64_words.specs.declared.size.Size.{Size}
use Rattle.amd64_words.specs.declared.size.Size.TheVariants as size
use Rattle.amd64_subset.specs.declared.numbers.Numbers.{Numbers}
use Rattle.amd64_subset.specs.declared.row.Row.{Row}
use Rattle.amd64_subset.specs.declared.row.Row.TheVariants as row
use Rattle.amd64_subset.specs.declared.row.Group.{Group}
use Rattle.amd64_subset.specs.declared.row.Group.TheVariants as group
use Rattle.amd64_subset.specs.declared.row.Action.{Action}
use Rattle.amd64_subset.specs.declared.row.Action.TheVariants as action
use Rattle.amd64_subset.specs.declared.selectors.Selectors.{Selectors}
use Rattle.amd64_subset.specs.declared.meaning.Body.{Body}
use Rattle.amd64_subset.specs.Number.{count_of, signed_of}
use Rattle.amd64_subset.specs.Row.{action_of, group_action, arithmetic_of, shift_of}
use Rattle.amd64_subset.specs.Selectors.{has_sib, least_displacement, allowed, displacement_size, sib_at, selectors_at}
use Rattle.amd64_subset.specs.Meaning.{width_of, alone_body, numbered_body, operand_body}
use Rattle.amd64_subset.specs.Reading.{Read, ◌>>=◌, numbers_at}
use Rattle.amd64_subset.specs.Decoding.{operated_at, body_at}
use Rattle.amd64_subset.proofs.Steps.{bind_ok, bind_short, kept, kept_short, ok_or_ok, ok_or_short, ok_is}
use Rattle.amd64_subset.proofs.Fields.{numbers_takes, operated_takes}

abbrev pub is_byte : ℕ → Bool
is_byte byte = ltb byte 256

-- too few bytes were read: no more are missing than the tail has before what is left of it
pub record Lacks {A : Type 0} (r : Read A) (rest tail : List ℕ) : Type 0 where
  pub missing : ℕ
  pub is : r ≡ Err (Short missing)
  pub bound : missing + length rest ≤ length tail

-- with so many bytes more, all is read and nothing is left
pub record Fills {A : Type 0} (R : List ℕ → Read A) (bytes : List ℕ) (missing : ℕ) : Type 0 where
  pub tail : List ℕ
  pub value : A
  pub tail-length : length tail ≡ missing
  pub are_bytes : list_all is_byte tail ≡ true
  pub read : R (bytes ++ tail) ≡ Ok (value, [])

-- where a whole reading ends in the tail, the bytes before it are too few
abbrev pub Cuts : {A : Type 0} → (List ℕ → Read A) → List ℕ → Type 0
Cuts {A} R bytes = (tail : List ℕ) (x : A) (rest : List ℕ) → R (bytes ++ tail) ≡ Ok (x, rest)
    → length rest < length tail → Lacks (R bytes) rest tail

-- what is missing can come
abbrev pub Completes : {A : Type 0} → (List ℕ → Read A) → List ℕ → Type 0
Completes {A} R bytes = (n : ℕ) → R bytes ≡ Err (Short n) → Fills R bytes n

pub bind_assoc : {A B C : Type 0} (r : Result A Fault) (f : A → Result B Fault) (g : B → Result C Fault)
    → ((r >>= f) >>= g) ≡ (r >>= (λ x. f x >>= g))
bind_assoc (Ok x) f g = refl
bind_assoc (Err e) f g = refl

pub short_is : {A : Type 0} {m n : ℕ} → ◌≡◌ {A = Read A} (Err (Short m)) (Err (Short n)) → m ≡ n
short_is e = cc

pub zeros_bytes : (n : ℕ) → list_all is_byte (replicate n 0) ≡ true
zeros_bytes zero = refl
zeros_bytes (suc n) = zeros_bytes n

-- ---- numbers

abbrev body_read : Body → List ℕ → Read Body
body_read body rest = Ok (body, rest)

abbrev pub ended : Size → Size → (Numbers → Body) → List ℕ → Read Body
ended d s k bytes = numbers_at d s bytes >>= (λ n. Ok (k n.0, n.1))

pub ended_least : (d s : Size) (k : Numbers → Body) (bytes : List ℕ) (x : Body) (rest : List ℕ)
    → ended d s k bytes ≡ Ok (x, rest) → count_of d + count_of s + length rest ≡ length bytes
ended_least d s k bytes x rest e =
    let read = bind_ok (numbers_at d s bytes) _ (x, rest) e in
    let n = numbers_takes d s bytes read.0.0 read.0.1 read.1 in
    let same : read.0.1 ≡ rest = ap (λ (p : Body × List ℕ). p.1) (ok_is _ (x, rest) read.2) in
    omega (
      arith,
      n.first-length,
      n.second-length,
      ap length n.whole,
      ap length same,
      length-append n.first (n.second ++ read.0.1),
      length-append n.second read.0.1,
    )

ended_short : (d s : Size) (k : Numbers → Body) (bytes : List ℕ) → length bytes < count_of d + count_of s
    → ended d s k bytes ≡ Err (Short (count_of d + count_of s - length bytes))
unfolding numbers_at
ended_short d s k bytes less = rw (lt-ltb _ _ less) refl

pub ended_cuts : (d s : Size) (k : Numbers → Body) (bytes : List ℕ) → Cuts (ended d s k) bytes
ended_cuts d s k bytes tail x rest e inside =
    let whole = ended_least d s k (bytes ++ tail) x rest e in
    let less : length bytes < count_of d + count_of s = omega (arith, length-append bytes tail) in
    record {
      missing = count_of d + count_of s - length bytes;
      is = ended_short d s k bytes less;
      bound = omega (arith, length-append bytes tail);
    }

nothing : (bytes : List ℕ) → length bytes ≡ 0 → bytes ≡ []
nothing [] e = refl
nothing (b ∷ bytes) e = absurd (omega arith)

ended_long : (d s : Size) (k : Numbers → Body) (bytes : List ℕ) → length bytes ≡ count_of d + count_of s
    → (x : Body) × (ended d s k bytes ≡ Ok (x, []))
unfolding numbers_at
ended_long d s k bytes len =
    let long : ltb (length bytes) (count_of d + count_of s) ≡ false = le-ltb _ _ (omega arith) in
    let none : drop (count_of s) (drop (count_of d) bytes) ≡ [] =
    nothing _ (omega (arith, length-drop (count_of s) (drop (count_of d) bytes), length-drop (count_of d) bytes)) in (
      k (record {
        displacement = signed_of d (take (count_of d) bytes);
        immediate = signed_of s (take (count_of s) (drop (count_of d) bytes));
      }),
      rw (long, none) refl,
    )

short_missing : (b : Bool) (m n : ℕ) (y : Numbers × List ℕ) (k : Numbers → Body)
    → (cond b (Err (Short m)) (Ok y) >>= (λ x. body_read (k x.0) x.1)) ≡ Err (Short n) → (b ≡ true) × (m ≡ n)
short_missing true m n y k e = (refl, cc)
short_missing false m n y k e = absurd cc

ended_missing : (d s : Size) (k : Numbers → Body) (bytes : List ℕ) (n : ℕ) → ended d s k bytes ≡ Err (Short n)
    → (length bytes + n ≡ count_of d + count_of s)
unfolding numbers_at
ended_missing d s k bytes n e =
    let m = short_missing (ltb (length bytes) (count_of d + count_of s))
    (count_of d + count_of s - length bytes) n _ k e in
    omega (arith, ltb-true _ _ m.0, m.1)

pub ended_completes : (d s : Size) (k : Numbers → Body) (bytes : List ℕ) → Completes (ended d s k) bytes
ended_completes d s k bytes n e =
    let len = ended_missing d s k bytes n e in
    let long = ended_long d s k (bytes ++ replicate n 0)
    (omega (arith, length-append bytes (replicate n 0), length-replicate {A = ℕ} n 0)) in
    record {
      tail = replicate n 0;
      value = long.0;
      tail-length = length-replicate {A = ℕ} n 0;
      are_bytes = zeros_bytes n;
      read = long.1;
    }

-- ---- SIB and numbers

abbrev with_sib : Prefixes → Size → Action → ℕ → Option ℕ → List ℕ → Read Body
with_sib prefixes s a modrm sib =
    ended (displacement_size (record { modrm = modrm; sib = sib })) s
    (operand_body a prefixes (record { modrm = modrm; sib = sib }) s)

abbrev sibbed : Prefixes → Size → Action → ℕ → List ℕ → Read Body
sibbed prefixes s a modrm bytes = sib_at modrm s bytes >>= (λ sib. with_sib prefixes s a modrm sib.0 sib.1)

-- where ModRM is allowed, SIB and the numbers follow
operated-sibbed : (prefixes : Prefixes) (r : Row) (s : Size) (a : Action) (modrm : ℕ) (bytes : List ℕ)
    → action_of r ((modrm / 8) % 8) ≡ Some a
    → allowed a prefixes modrm ≡ true → operated_at prefixes r s (modrm ∷ bytes) ≡ sibbed prefixes s a modrm bytes
unfolding operated_at selectors_at
operated-sibbed prefixes r s a modrm bytes named allows = rw (named, allows)
    (bind_assoc (sib_at modrm s bytes) (λ sib. Ok ((a, record { modrm = modrm; sib = sib.0 }), sib.1))
    (λ selected. ended (displacement_size selected.0.1) s
    (operand_body selected.0.0 prefixes selected.0.1 s) selected.1))

-- ModRM of a reading that was not refused was allowed
abbrev Allowed : Prefixes → Row → ℕ → Type 0
Allowed prefixes r modrm = (a : Action) × (action_of r ((modrm / 8) % 8) ≡ Some a) × (allowed a prefixes modrm ≡ true)

selectors_allowed : (prefixes : Prefixes) (r : Row) (s : Size) (modrm : ℕ) (bytes : List ℕ)
    (y : (Action × Selectors) × List ℕ)
    → selectors_at prefixes r s (modrm ∷ bytes) ≡ Ok y → Allowed prefixes r modrm
unfolding selectors_at
selectors_allowed prefixes r s modrm bytes y e =
    let named = bind_ok (ok_or (action_of r ((modrm / 8) % 8)) Wrong) _ y e in
    let fits = kept (not (allowed named.0 prefixes modrm)) Wrong _ y named.2 in
    (named.0, ok_or_ok _ _ named.1, not-false _ fits.0)

selectors_short : (prefixes : Prefixes) (r : Row) (s : Size) (modrm : ℕ) (bytes : List ℕ) (n : ℕ)
    → selectors_at prefixes r s (modrm ∷ bytes) ≡ Err (Short n) → Allowed prefixes r modrm
unfolding selectors_at
selectors_short prefixes r s modrm bytes n e =
    elim (bind_short (ok_or (action_of r ((modrm / 8) % 8)) Wrong) _ n e) [
      | inl h ↦ absurd (ok_or_short (action_of r ((modrm / 8) % 8)) n h)
      | inr h ↦ (h.0, ok_or_ok _ _ h.1, not-false _ (kept_short (not (allowed h.0 prefixes modrm)) _ n h.2).0)
    ]

operated_allowed : (prefixes : Prefixes) (r : Row) (s : Size) (modrm : ℕ) (bytes : List ℕ) (y : Body × List ℕ)
    → operated_at prefixes r s (modrm ∷ bytes) ≡ Ok y → Allowed prefixes r modrm
unfolding operated_at
operated_allowed prefixes r s modrm bytes y e =
    let selected = bind_ok (selectors_at prefixes r s (modrm ∷ bytes)) _ y e in
    selectors_allowed prefixes r s modrm bytes selected.0 selected.1

operated_short : (prefixes : Prefixes) (r : Row) (s : Size) (modrm : ℕ) (bytes : List ℕ) (n : ℕ)
    → operated_at prefixes r s (modrm ∷ bytes) ≡ Err (Short n) → Allowed prefixes r modrm
unfolding operated_at
operated_short prefixes r s modrm bytes n e =
    elim (bind_short (selectors_at prefixes r s (modrm ∷ bytes)) _ n e) [
      | inl h ↦ selectors_short prefixes r s modrm bytes n h
      | inr h ↦ selectors_allowed prefixes r s modrm bytes h.0 h.1
    ]

-- a SIB byte is needed, or not
sibbed-none : (prefixes : Prefixes) (s : Size) (a : Action) (modrm : ℕ) (bytes : List ℕ) → has_sib modrm ≡ false
    → sibbed prefixes s a modrm bytes ≡ with_sib prefixes s a modrm None bytes
unfolding sib_at
sibbed-none prefixes s a modrm bytes e = rw (e) refl

sibbed-some : (prefixes : Prefixes) (s : Size) (a : Action) (modrm sib : ℕ) (bytes : List ℕ) → has_sib modrm ≡ true
    → sibbed prefixes s a modrm (sib ∷ bytes) ≡ with_sib prefixes s a modrm (Some sib) bytes
unfolding sib_at
sibbed-some prefixes s a modrm sib bytes e = rw (e) refl

sibbed-end : (prefixes : Prefixes) (s : Size) (a : Action) (modrm : ℕ) → has_sib modrm ≡ true
    → sibbed prefixes s a modrm [] ≡ Err (Short (1 + least_displacement modrm + count_of s))
unfolding sib_at
sibbed-end prefixes s a modrm e = rw (e) refl

-- a reading by another that gives the same
lacks_by : (q r : Read Body) (rest tail : List ℕ) → q ≡ r → Lacks r rest tail → Lacks q rest tail
lacks_by q r rest tail same h = record { missing = h.missing; is = same ∙ h.is; bound = h.bound }

sizes_least : (a b c d : Bool)
    → cond a 1 (cond b 4 0) ≤ count_of
    (cond a size.One (cond b size.Four (cond c size.Zero (cond d size.Four size.Zero))))
sizes_least true b c d = omega arith
sizes_least false true c d = omega arith
sizes_least false false true d = omega arith
sizes_least false false false true = omega arith
sizes_least false false false false = omega arith

sizes_exact : (a b c : Bool)
    → count_of (cond a size.One (cond b size.Four (cond c size.Zero size.Zero))) ≡ cond a 1 (cond b 4 0)
sizes_exact true b c = refl
sizes_exact false true c = refl
sizes_exact false false true = refl
sizes_exact false false false = refl

least_size : (modrm : ℕ) (sib : Option ℕ)
    → least_displacement modrm ≤ count_of (displacement_size (record { modrm = modrm; sib = sib }))
unfolding displacement_size
least_size modrm sib = sizes_least (eqb (modrm / 64) 1) (eqb (modrm / 64) 2) (eqb (modrm / 64) 3) _

exact_size : (modrm : ℕ)
    → count_of (displacement_size (record { modrm = modrm; sib = Some 0 })) ≡ least_displacement modrm
unfolding displacement_size
exact_size modrm = sizes_exact (eqb (modrm / 64) 1) (eqb (modrm / 64) 2) (eqb (modrm / 64) 3)

sibbed_cuts : (prefixes : Prefixes) (s : Size) (a : Action) (modrm : ℕ) (bytes : List ℕ)
    → Cuts (sibbed prefixes s a modrm) bytes
sibbed_cuts prefixes s a modrm bytes tail x rest e inside = go (has_sib modrm) refl bytes e
  where
    k : Option ℕ → Numbers → Body
    k sib = operand_body a prefixes (record { modrm = modrm; sib = sib }) s

    go : (b : Bool) → has_sib modrm ≡ b → (bytes : List ℕ) → sibbed prefixes s a modrm (bytes ++ tail) ≡ Ok (x, rest)
        → Lacks (sibbed prefixes s a modrm bytes) rest tail
    go false none bytes e = lacks_by _ _ rest tail (sibbed-none prefixes s a modrm bytes none)
        (ended_cuts (displacement_size (record { modrm = modrm; sib = None })) s (k None) bytes tail x rest
        (sym (sibbed-none prefixes s a modrm (bytes ++ tail) none) ∙ e) inside)
    go true some (sib ∷ bytes) e = lacks_by _ _ rest tail (sibbed-some prefixes s a modrm sib bytes some)
        (ended_cuts (displacement_size (record { modrm = modrm; sib = Some sib })) s (k (Some sib)) bytes tail x rest
        (sym (sibbed-some prefixes s a modrm sib (bytes ++ tail) some) ∙ e) inside)
    go true some [] e = at_end tail inside e
      where
        at_end : (tail : List ℕ) → length rest < length tail → sibbed prefixes s a modrm tail ≡ Ok (x, rest)
            → Lacks (sibbed prefixes s a modrm []) rest tail
        at_end [] less e = absurd (omega arith)
        at_end (sib ∷ tail) less e =
            let len = ended_least (displacement_size (record { modrm = modrm; sib = Some sib })) s
            (k (Some sib)) tail x rest (sym (sibbed-some prefixes s a modrm sib tail some) ∙ e) in
            record {
              missing = 1 + least_displacement modrm + count_of s;
              is = sibbed-end prefixes s a modrm some;
              bound = omega (arith, least_size modrm (Some sib));
            }

fills_by : (Q R : List ℕ → Read Body) (bytes : List ℕ) (n : ℕ)
    → ((more : List ℕ) → Q (bytes ++ more) ≡ R (bytes ++ more)) → Fills R bytes n → Fills Q bytes n
fills_by Q R bytes n same h =
    record {
      tail = h.tail;
      value = h.value;
      tail-length = h.tail-length;
      are_bytes = h.are_bytes;
      read = same h.tail ∙ h.read;
    }

-- a byte before it
pub fills_after : (Q R : List ℕ → Read Body) (byte : ℕ) (bytes : List ℕ) (n : ℕ)
    → ((more : List ℕ) → Q (byte ∷ more) ≡ R more) → Fills R bytes n → Fills Q (byte ∷ bytes) n
fills_after Q R byte bytes n same h =
    record {
      tail = h.tail;
      value = h.value;
      tail-length = h.tail-length;
      are_bytes = h.are_bytes;
      read = same (bytes ++ h.tail) ∙ h.read;
    }

sibbed_completes : (prefixes : Prefixes) (s : Size) (a : Action) (modrm : ℕ) (bytes : List ℕ)
    → Completes (sibbed prefixes s a modrm) bytes
sibbed_completes prefixes s a modrm bytes n e = go (has_sib modrm) refl bytes e
  where
    k : Option ℕ → Numbers → Body
    k sib = operand_body a prefixes (record { modrm = modrm; sib = sib }) s

    go : (b : Bool) → has_sib modrm ≡ b → (bytes : List ℕ) → sibbed prefixes s a modrm bytes ≡ Err (Short n)
        → Fills (sibbed prefixes s a modrm) bytes n
    go false none bytes e = fills_by (sibbed prefixes s a modrm) (with_sib prefixes s a modrm None) bytes n
        (λ more. sibbed-none prefixes s a modrm (bytes ++ more) none)
        (ended_completes (displacement_size (record { modrm = modrm; sib = None })) s
        (k None) bytes n (sym (sibbed-none prefixes s a modrm bytes none) ∙ e))
    go true some (sib ∷ bytes) e =
        fills_after (sibbed prefixes s a modrm) (with_sib prefixes s a modrm (Some sib)) sib bytes n
        (λ more. sibbed-some prefixes s a modrm sib more some)
        (ended_completes (displacement_size (record { modrm = modrm; sib = Some sib })) s
        (k (Some sib)) bytes n (sym (sibbed-some prefixes s a modrm sib bytes some) ∙ e))
    go true some [] e =
        let missing : 1 + least_displacement modrm + count_of s ≡ n =
        short_is (sym (sibbed-end prefixes s a modrm some) ∙ e) in
        let m : ℕ = least_displacement modrm + count_of s in
        let long = ended_long (displacement_size (record { modrm = modrm; sib = Some 0 })) s (k (Some 0))
        (replicate m 0) (omega (arith, length-replicate {A = ℕ} m 0, exact_size modrm)) in
        record {
          tail = 0 ∷ replicate m 0;
          value = long.0;
          tail-length = omega (arith, length-replicate {A = ℕ} m 0);
          are_bytes = zeros_bytes m;
          read = sibbed-some prefixes s a modrm 0 (replicate m 0) some ∙ long.1;
        }

-- ---- ModRM and what follows

-- the least bytes that ModRM and an immediate have
operated_least : (prefixes : Prefixes) (r : Row) (s : Size) (bytes : List ℕ) (x : Body) (rest : List ℕ)
    → operated_at prefixes r s bytes ≡ Ok (x, rest) → 1 + count_of s + length rest ≤ length bytes
operated_least prefixes r s bytes x rest e =
    let t = operated_takes prefixes r s bytes x rest e in
    omega (
      arith,
      ap length t.1,
      length-append t.0 rest,
      ap length t.2.whole,
      length-append (option_to_list t.2.sib)
          (t.2.displacement ++ t.2.immediate),
      length-append t.2.displacement t.2.immediate,
      t.2.immediate-length,
    )

operated_end : (prefixes : Prefixes) (r : Row) (s : Size) → operated_at prefixes r s [] ≡ Err (Short (1 + count_of s))
unfolding operated_at selectors_at
operated_end prefixes r s = refl

operated_cuts : (prefixes : Prefixes) (r : Row) (s : Size) (bytes : List ℕ) → Cuts (operated_at prefixes r s) bytes
operated_cuts prefixes r s [] tail x rest e inside =
    record {
      missing = 1 + count_of s;
      is = operated_end prefixes r s;
      bound = operated_least prefixes r s tail x rest e;
    }
operated_cuts prefixes r s (modrm ∷ bytes) tail x rest e inside =
    let a = operated_allowed prefixes r s modrm (bytes ++ tail) (x, rest) e in
    lacks_by _ _ rest tail (operated-sibbed prefixes r s a.0 modrm bytes a.1 a.2)
    (sibbed_cuts prefixes s a.0 modrm bytes tail x rest
    (sym (operated-sibbed prefixes r s a.0 modrm (bytes ++ tail) a.1 a.2) ∙ e) inside)

-- the row has a ModRM byte that asks for nothing more
pub record HasLeast (prefixes : Prefixes) (r : Row) : Type 0 where
  pub modrm : ℕ
  pub action : Action
  pub low : is_byte modrm ≡ true
  pub no_sib : has_sib modrm ≡ false
  pub no_displacement : displacement_size (record { modrm = modrm; sib = None }) ≡ size.Zero
  pub named : action_of r ((modrm / 8) % 8) ≡ Some action
  pub allows : allowed action prefixes modrm ≡ true

operated_completes : (prefixes : Prefixes) (r : Row) (s : Size) (bytes : List ℕ) → HasLeast prefixes r
    → Completes (operated_at prefixes r s) bytes
operated_completes prefixes r s [] least n e =
    let missing : 1 + count_of s ≡ n = short_is (sym (operated_end prefixes r s) ∙ e) in
    let m : ℕ = count_of s in
    let none : Selectors = record { modrm = least.modrm; sib = None } in
    let long = ended_long (displacement_size none) s (operand_body least.action prefixes none s) (replicate m 0)
    (omega (arith, length-replicate {A = ℕ} m 0, ap count_of least.no_displacement)) in
    record {
      tail = least.modrm ∷ replicate m 0;
      value = long.0;
      tail-length = omega (arith, length-replicate {A = ℕ} m 0);
      are_bytes = and_from (is_byte least.modrm) (list_all is_byte (replicate m 0)) least.low (zeros_bytes m);
      read = operated-sibbed prefixes r s least.action least.modrm (replicate m 0) least.named least.allows
          ∙ sibbed-none prefixes s least.action least.modrm (replicate m 0) least.no_sib ∙ long.1;
    }
operated_completes prefixes r s (modrm ∷ bytes) least n e =
    let a = operated_short prefixes r s modrm bytes n e in
    fills_after (operated_at prefixes r s) (sibbed prefixes s a.0 modrm) modrm bytes n
    (λ more. operated-sibbed prefixes r s a.0 modrm more a.1 a.2)
    (sibbed_completes prefixes s a.0 modrm bytes n (sym (operated-sibbed prefixes r s a.0 modrm bytes a.1 a.2) ∙ e))

allowed_least : (a : Action) (prefixes : Prefixes) → allowed a prefixes 0 ≡ true
unfolding allowed
allowed_least action.StoreByte prefixes = refl
allowed_least a prefixes = refl

least_register : (prefixes : Prefixes) (a : Action) → HasLeast prefixes (row.Register a)
unfolding displacement_size
least_register prefixes a =
    record {
      modrm = 0;
      action = a;
      low = refl;
      no_sib = refl;
      no_displacement = refl;
      named = refl;
      allows = allowed_least a prefixes;
    }

least_group : (prefixes : Prefixes) (g : Group) (s : Size) → HasLeast prefixes (row.Group g s)
unfolding displacement_size group_action arithmetic_of shift_of allowed
least_group prefixes group.Move s =
    record {
      modrm = 0;
      action = action.MoveImmediate;
      low = refl;
      no_sib = refl;
      no_displacement = refl;
      named = refl;
      allows = refl;
    }
least_group prefixes group.Arithmetic s =
    record {
      modrm = 0;
      action = action.ComputeImmediate Add;
      low = refl;
      no_sib = refl;
      no_displacement = refl;
      named = refl;
      allows = refl;
    }
least_group prefixes group.Shift s =
    record {
      modrm = 0x20;
      action = action.ShiftBy Left;
      low = refl;
      no_sib = refl;
      no_displacement = refl;
      named = refl;
      allows = refl;
    }
least_group prefixes group.ShiftOnce s =
    record {
      modrm = 0x20;
      action = action.ShiftOnce Left;
      low = refl;
      no_sib = refl;
      no_displacement = refl;
      named = refl;
      allows = refl;
    }
least_group prefixes group.Target s =
    record {
      modrm = 0x10;
      action = action.CallTarget;
      low = refl;
      no_sib = refl;
      no_displacement = refl;
      named = refl;
      allows = refl;
    }
least_group prefixes group.Nop s =
    record {
      modrm = 0;
      action = action.Padding;
      low = refl;
      no_sib = refl;
      no_displacement = refl;
      named = refl;
      allows = refl;
    }

-- ---- what stands behind an opcode

-- how many bytes follow an opcode at least
abbrev pub least_of : Row → ℕ
least_of (row.Number a s) = count_of s
least_of (row.Register a) = 1
least_of (row.Group g s) = 1 + count_of s
least_of r = 0

alone_least : (bytes : List ℕ) (b x : Body) (rest : List ℕ) → body_read b bytes ≡ Ok (x, rest)
    → 0 + length rest ≤ length bytes
alone_least bytes b x rest e = omega (arith, ap (λ (p : Body × List ℕ). length p.1) (ok_is (b, bytes) (x, rest) e))

pub body_least : (prefixes : Prefixes) (r : Row) (bytes : List ℕ) (x : Body) (rest : List ℕ)
    → body_at prefixes r bytes ≡ Ok (x, rest) → least_of r + length rest ≤ length bytes
unfolding body_at
body_least prefixes (row.Alone op) bytes x rest e = alone_least bytes (alone_body op) x rest e
body_least prefixes row.Nop bytes x rest e = alone_least bytes _ x rest e
body_least prefixes row.EndBranch bytes x rest e = alone_least bytes _ x rest e
body_least prefixes (row.Number a s) bytes x rest e =
    omega (arith, ended_least size.Zero s (λ n. numbered_body a (width_of prefixes) s n.immediate) bytes x rest e)
body_least prefixes (row.Register a) bytes x rest e =
    omega (arith, operated_least prefixes (row.Register a) size.Zero bytes x rest e)
body_least prefixes (row.Group g s) bytes x rest e = operated_least prefixes (row.Group g s) s bytes x rest e

alone_cuts : (b : Body) (bytes : List ℕ) → Cuts (body_read b) bytes
alone_cuts b bytes tail x rest e inside =
    absurd (omega (
      arith,
      length-append bytes tail,
      ap (λ (p : Body × List ℕ). length p.1) (ok_is (b, bytes ++ tail) (x, rest) e),
    ))

pub body_cuts : (prefixes : Prefixes) (r : Row) (bytes : List ℕ) → Cuts (body_at prefixes r) bytes
unfolding body_at
body_cuts prefixes (row.Alone op) bytes = alone_cuts (alone_body op) bytes
body_cuts prefixes row.Nop bytes = alone_cuts (alone_body (operation.Nop None)) bytes
body_cuts prefixes row.EndBranch bytes = alone_cuts (alone_body (operation.Nop None)) bytes
body_cuts prefixes (row.Number a s) bytes =
    ended_cuts size.Zero s (λ n. numbered_body a (width_of prefixes) s n.immediate) bytes
body_cuts prefixes (row.Register a) bytes = operated_cuts prefixes (row.Register a) size.Zero bytes
body_cuts prefixes (row.Group g s) bytes = operated_cuts prefixes (row.Group g s) s bytes

pub body_completes : (prefixes : Prefixes) (r : Row) (bytes : List ℕ) → Completes (body_at prefixes r) bytes
unfolding body_at
body_completes prefixes (row.Alone op) bytes n e = absurd cc
body_completes prefixes row.Nop bytes n e = absurd cc
body_completes prefixes row.EndBranch bytes n e = absurd cc
body_completes prefixes (row.Number a s) bytes n e =
    ended_completes size.Zero s (λ m. numbered_body a (width_of prefixes) s m.immediate) bytes n e
body_completes prefixes (row.Register a) bytes n e =
    operated_completes prefixes (row.Register a) size.Zero bytes (least_register prefixes a) n e
body_completes prefixes (row.Group g s) bytes n e =
    operated_completes prefixes (row.Group g s) s bytes (least_group prefixes g s) n e
