-- The last part of an image, and whether the TLS segment begins no further than it ends.
use Rattle.std.proofs.Common.{◌≡◌, ◌↔◌, ℕ, ◌+◌, ◌-◌, ◌^◌, ◌<◌, ◌≤◌, Option, Some, None, List, [], ◌∷◌, length, map}
use Rattle.std.proofs.Common.{get_or, refl, ap, sym, ◌∙◌, subst, arith}
use Rattle.std.specs.Prelude.{IfSome, IsTrue, min, nat_le, ◌==◌}
use Rattle.std.specs.List.{slice_get}
use Rattle.std.specs.Option.{option_map}
use Rattle.std.proofs.lemmas.Bool.{eq-eqb, eqb-true, le-leb, leb-true}
use Rattle.std.proofs.lemmas.List.{length-map}
use Rattle.std.proofs.lemmas.Option.{slice_get-map, get_or_from_slice_get}
use Rattle.image_file.specs.declared.part.TlsPart.{TlsPart}
use Rattle.image_file.specs.Spelled.{Part, Spelled}
use Rattle.image_writer.specs.Loadable.{HoldsTls}
use Rattle.image_writer.specs.Outlined.{end_of, last_part, no_part, outline_of, place_of}
use Rattle.image_writer.proofs.Laying.{none-past}

-- the part whose number is one below their count is the last
last_is : (s : Spelled) (n : ℕ) (p : Part) → n ≡ length s.parts - 1 → slice_get s.parts n ≡ Some p
    → last_part (outline_of s) ≡ place_of p
last_is s n p count here =
    let found : slice_get (map place_of s.parts) n ≡ Some (place_of p) = slice_get-map place_of s.parts n
    ∙ ap (option_map place_of) here in
    let at : length (map place_of s.parts) - 1 ≡ n = omega (arith, length-map s.parts place_of, count) in
    ap (λ k. get_or (map place_of s.parts) k no_part) at
    ∙ get_or_from_slice_get (map place_of s.parts) n (place_of p) no_part found

-- what is said of a segment, said of the image that has it
of_segment : (s : Spelled) (t : TlsPart) (e : ℕ) → s.tls ≡ Some t → end_of (last_part (outline_of s)) ≡ e
    → (t.address ≤ e) ↔ HoldsTls (outline_of s)
of_segment s t e tls end =
    let P : Option TlsPart → Type 0 = λ o. (t.address ≤ e)
    ↔ IfSome o (λ u. u.address ≤ end_of (last_part (outline_of s))) in
    subst P (sym tls) (λ below. rw end below, λ below. rw (sym end) below)

-- an image without a TLS segment
pub none_held : (s : Spelled) → s.tls ≡ None → HoldsTls (outline_of s)
none_held s none =
    let P : Option TlsPart → Type 0 = λ o. IfSome o (λ t. t.address ≤ end_of (last_part (outline_of s))) in
    subst P (sym none) tt

-- a number of 64 bits is no greater than a sum just if it is no greater than what saturating gives
below_end : (t a n e : ℕ) → t < 2 ^ 64 → e ≡ min (a + n) (2 ^ 64 - 1) → IsTrue (nat_le t e) ↔ (t ≤ a + n)
below_end t a n e small end = (
  λ is. (let below = leb-true t e is in omega (arith, below)),
  λ below. le-leb t e (omega (arith, below)),
)

-- an image with a last part
pub held : (s : Spelled) (n : ℕ) (p : Part) (t : TlsPart) (e : ℕ) → n ≡ length s.parts - 1
    → slice_get s.parts n ≡ Some p
    → s.tls ≡ Some t → t.address < 2 ^ 64 → e ≡ min (p.address + length p.bytes) (2 ^ 64 - 1)
    → IsTrue (nat_le t.address e) ↔ HoldsTls (outline_of s)
held s n p t e count here tls small end =
    let sum = below_end t.address p.address (length p.bytes) e small end in
    let segment = of_segment s t (p.address + length p.bytes) tls (ap end_of (last_is s n p count here)) in
    (λ is. segment.0 (sum.0 is), λ holds. sum.1 (segment.1 holds))

-- an image without parts
no_parts : (ps : List Part) (n : ℕ) → n ≡ length ps - 1 → slice_get ps n ≡ None → ps ≡ []
no_parts [] n count none = refl
no_parts (p ∷ more) n count none = absurd (omega (arith, none-past (p ∷ more) n none))

pub empty_held : (s : Spelled) (n : ℕ) (t : TlsPart) → n ≡ length s.parts - 1 → slice_get s.parts n ≡ None
    → s.tls ≡ Some t → IsTrue (t.address == 0) ↔ HoldsTls (outline_of s)
empty_held s n t count none tls =
    let end : end_of (last_part (outline_of s)) ≡ 0 =
    ap (λ ps. end_of (get_or (map place_of ps) (length (map place_of ps) - 1) no_part))
    (no_parts s.parts n count none) in
    let segment = of_segment s t 0 tls end in (
      λ is. (let zero = eqb-true t.address 0 is in segment.0 (omega (arith, zero))),
      λ holds. (let below = segment.1 holds in eq-eqb t.address 0 (omega (arith, below))),
    )
