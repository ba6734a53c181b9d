-- The displacement and the immediate of an instruction begin at different bytes.
use Rattle.std.proofs.Common.{◌≡◌, ℕ, ◌-◌, ◌<◌, Bool, true, false, List, length, take, Option, Some, None, refl, sym}
use Rattle.std.proofs.Common.{ap, subst, ◌∙◌, arith}
use Rattle.std.specs.Prelude.{if◌then◌else◌}
use Rattle.amd64_words.specs.Number.{count_of}
use Rattle.amd64_words.specs.declared.size.Size.{Size}
use Rattle.amd64_words.specs.declared.size.Size.TheVariants as size
use Rattle.amd64_subset.specs.declared.instr.Decoded.{Decoded}
use Rattle.amd64_subset.specs.declared.instr.Width.{Width}
use Rattle.amd64_subset.specs.declared.meaning.Body.{Body}
use Rattle.amd64_subset.specs.declared.prefix.Prefixes.{Prefixes}
use Rattle.amd64_subset.specs.declared.row.Action.{Action}
use Rattle.amd64_subset.specs.declared.row.Numbered.{Numbered}
use Rattle.amd64_subset.specs.declared.row.Numbered.TheVariants as numbered
use Rattle.amd64_subset.specs.declared.row.Row.{Row}
use Rattle.amd64_subset.specs.declared.row.Row.TheVariants as row
use Rattle.amd64_subset.specs.declared.numbers.Numbers.{Numbers}
use Rattle.amd64_subset.specs.declared.selectors.Selectors.{Selectors}
use Rattle.amd64_subset.specs.Decoding.{before, decoded}
use Rattle.amd64_subset.specs.Meaning.{from_end, numbered_body, operand_body, takes_immediate}
use Rattle.amd64_subset.specs.Selectors.{displacement_size}
use Rattle.amd64_subset.specs.Spelling.{HasBody, prefixes_of}
use Rattle.amd64_subset.proofs.Whole.{decoded_found}
use Rattle.job_meaning.proofs.Reading.{placed_of, field_place}

abbrev AreApart : Option ℕ → Option ℕ → Type 0
AreApart disp imm = (a : ℕ) → disp ≡ Some a → imm ≡ Some a → ⊥

-- an immediate of four bytes is the last of them
from-end : (s s' : Size) → AreApart (from_end s (count_of s')) (from_end s' 0)
from-end s size.Zero a e f = absurd cc
from-end s size.One a e f = absurd cc
from-end s size.Eight a e f = absurd cc
from-end size.Zero size.Four a e f = absurd cc
from-end size.One size.Four a e f = absurd cc
from-end size.Eight size.Four a e f = absurd cc
from-end size.Four size.Four a e f = let same : ◌≡◌ {A = Option ℕ} (Some 8) (Some 4) = e ∙ sym f in absurd cc

with-immediate : (b : Bool) (s s' : Size) → AreApart (from_end s (count_of s')) (if b then from_end s' 0 else None)
with-immediate true s s' a e f = from-end s s' a e f
with-immediate false s s' a e f = absurd cc

operated : (action : Action) (prefixes : Prefixes) (selectors : Selectors) (s : Size) (numbers : Numbers)
    → AreApart (operand_body action prefixes selectors s numbers).disp
    (operand_body action prefixes selectors s numbers).imm
unfolding operand_body
operated action prefixes selectors s numbers = with-immediate (takes_immediate action) (displacement_size selectors) s

abbrev IsApart : Body → Type 0
IsApart body = AreApart body.disp body.imm

numbered-apart : (action : Numbered) (width : Width) (s : Size) (number : ℕ)
    → IsApart (numbered_body action width s number)
unfolding numbered_body
numbered-apart numbered.Call width s number a e f = absurd cc
numbered-apart numbered.Jump width s number a e f = absurd cc
numbered-apart (numbered.JumpIf c) width s number a e f = absurd cc
numbered-apart (numbered.Move r) width s number a e f = absurd cc
numbered-apart (numbered.Compute k) width s number a e f = absurd cc

body : (prefixes : Prefixes) (r : Row) (bytes : List ℕ) (body : Body) → HasBody prefixes r bytes body → IsApart body
body prefixes (row.Alone op) bytes b h = subst IsApart (sym h.1) (λ a e f. absurd cc)
body prefixes row.Nop bytes b h = subst IsApart (sym h.1) (λ a e f. absurd cc)
body prefixes row.EndBranch bytes b h = subst IsApart (sym h.1) (λ a e f. absurd cc)
body prefixes (row.Number action s) bytes b h = subst IsApart (sym h.1) (numbered-apart action _ s _)
body prefixes (row.Register action) bytes b h = subst IsApart (sym h.body-is) (operated h.action prefixes _ size.Zero _)
body prefixes (row.Group group s) bytes b h = subst IsApart (sym h.body-is) (operated h.action prefixes _ s _)

parted : (len : ℕ) (disp imm : Option ℕ) (k : ℕ) → AreApart disp imm → 0 < k → before len disp ≡ Some k
    → before len imm ≡ Some k → ⊥
parted len None imm k apart some e f = absurd cc
parted len (Some a) None k apart some e f = absurd cc
parted len (Some a) (Some b) k apart some e f =
    let x : len - a ≡ k = cc in let y : len - b ≡ k = cc in
    let same : b ≡ a = omega (arith, x, y, some) in apart a refl (ap (λ (n : ℕ). Some n) same)

pub fields-apart : (bytes : List ℕ) (d : Decoded) (k : ℕ) → decoded bytes ≡ Some d → d.disp ≡ Some k → d.imm ≡ Some k
    → ⊥
fields-apart bytes d k e at at' =
    let spells = (decoded_found bytes d e).spells in
    let p = spells.parts in
    parted (length (take d.len bytes)) spells.body.disp spells.body.imm k
    (body (prefixes_of p.marks p.rex) p.row p.rest spells.body p.has_body)
    (field_place d.len d.disp k (placed_of bytes d e).disp at).0
    (ap (λ (x : Decoded). x.disp) (sym spells.decoded-is) ∙ at)
    (ap (λ (x : Decoded). x.imm) (sym spells.decoded-is) ∙ at')
