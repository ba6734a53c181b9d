-- The names of an object's symbols and sections stand in its tables of names, and end there.
use Rattle.std.proofs.Common.{◌≡◌, ◌≢◌, ◌+◌, ◌<◌, ◌≤◌, ℕ, true, List, [], ◌∷◌, ◌++◌, length, codes}
use Rattle.std.proofs.Common.{slice_index, refl, sym, ap, subst, ◌∙◌, arith, rules, length-append}
use Rattle.std.proofs.lemmas.List.{get_or-append-add, get_or_append_left, get_or_at}
use Rattle.std.proofs.lemmas.List.Elements.{All-from_recursion}
use Rattle.elf_object.specs.Names.{byte_of, Ends}
use Rattle.elf_object.specs.Parts.{section}
use Rattle.elf_object.specs.Faults.{symbol_strings}
use Rattle.generated_job.specs.Shapes.{Shape, sections_of, names_of, names_at, section_names, section_names_at}
use Rattle.generated_job.specs.Shapes.{getter_name, getter_name_at, variable_name_at}
use Rattle.generated_laws.specs.Reading.{IsNameText, IsSmall}
use Rattle.generated_laws.proofs.ObjectLaid.{IsLaid}
use Rattle.generated_laws.proofs.ObjectSections.{symbol_table_is}
use Rattle.generated_laws.proofs.ObjectReads.{names_split, names_split_late, variable_place, getter_place}
use Rattle.generated_laws.proofs.ObjectEach.{byte_of_part}

-- a name begins there, and ends
pub record IsNameAt (l : List ℕ) (at : ℕ) : Type 0 where
  pub some : slice_index l at ≢ 0
  pub end : ℕ
  pub behind : at ≤ end
  pub inside : end < length l
  pub ends : slice_index l end ≡ 0

name_behind : (front name rest : List ℕ) (at : ℕ) → length front ≡ at → IsNameText name
    → IsNameAt (front ++ (name ++ (0 ∷ rest))) at
name_behind front name rest at place text =
    let whole : List ℕ = front ++ (name ++ (0 ∷ rest)) in
    let start : at ≡ length front + 0 = omega arith in
    let stop : at + length name ≡ length front + length name = omega arith in
    let first : slice_index whole at ≡ slice_index name 0 = ap (slice_index whole) start
    ∙ get_or-append-add front (name ++ (0 ∷ rest)) 0 0 ∙ get_or_append_left name (0 ∷ rest) 0 0 text.some in
    record {
      some = λ none. (text.bytes 0 0 text.some).0 (sym first ∙ none);
      end = at + length name;
      behind = omega arith;
      inside = omega (arith, length-append front (name ++ (0 ∷ rest)), length-append name (0 ∷ rest));
      ends = ap (slice_index whole) stop ∙ get_or-append-add front (name ++ (0 ∷ rest)) (length name) 0
          ∙ get_or_at name 0 rest 0 (length name) refl;
    }

pub function_at : (s : Shape) → IsSmall s → IsNameAt (names_of s) 1
unfolding names_of
function_at s small =
    name_behind (0 ∷ []) s.function (s.variable ++ (0 ∷ getter_name s.calls)) 1 refl small.function_name

pub variable_at : (s : Shape) → IsSmall s → IsNameAt (names_of s) (variable_name_at s)
variable_at s small =
    subst (λ l. IsNameAt l (variable_name_at s)) (sym (names_split s))
    (name_behind (0 ∷ s.function ++ (0 ∷ [])) s.variable (getter_name s.calls) (variable_name_at s) (variable_place s)
    small.variable_name)

pub text_of_getter : IsNameText (codes "__tls_get_addr")
text_of_getter = record {
  some = omega arith;
  few = omega arith;
  bytes = All-from_recursion (λ b. (b ≢ 0) × (b < 256)) (codes "__tls_get_addr") (search (rules, arith));
}

pub getter_at : (s : Shape) → s.calls ≡ true → IsNameAt (names_of s) (getter_name_at s)
getter_at s calls =
    let front : List ℕ = 0 ∷ s.function ++ (0 ∷ s.variable ++ (0 ∷ [])) in
    let split : names_of s ≡ front ++ getter_name true = names_split_late s ∙ ap (λ c. front ++ getter_name c) calls in
    subst (λ l. IsNameAt l (getter_name_at s)) (sym split)
    (name_behind front (codes "__tls_get_addr") [] (getter_name_at s) (getter_place s) text_of_getter)

-- ** in the file

pub strings_are : (b : List ℕ) (s : Shape) → IsLaid b s → symbol_strings b ≡ 6
unfolding sections_of
strings_are b s laid =
    ap (λ n. (section b n).link) (symbol_table_is b s laid) ∙ ap (λ h. h.link) (laid.sections_are 5 (omega arith))

-- a byte of the names
byte_is : (b : List ℕ) (s : Shape) → IsLaid b s → (k : ℕ) → k < length (names_of s)
    → byte_of b 6 k ≡ slice_index (names_of s) k
unfolding sections_of
byte_is b s laid k below =
    rw (laid.sections_are 6 (omega arith))
    (byte_of_part b (names_of s) (names_at s) (length (names_of s)) k laid.names_are below)

pub name_ends : (b : List ℕ) (s : Shape) → IsLaid b s → (at : ℕ) → IsNameAt (names_of s) at → Ends b 6 at
unfolding sections_of
name_ends b s laid at name =
    let below : name.end < (section b 6).size = rw (laid.sections_are 6 (omega arith)) name.inside in
    (name.end, name.behind, below, byte_is b s laid name.end name.inside ∙ name.ends)

pub name_begins : (b : List ℕ) (s : Shape) → IsLaid b s → (at : ℕ) → IsNameAt (names_of s) at → byte_of b 6 at ≢ 0
name_begins b s laid at name none =
    name.some (sym (byte_is b s laid at (omega (arith, name.behind, name.inside))) ∙ none)

pub section_name_ends : (b : List ℕ) (s : Shape) → IsLaid b s → (at : ℕ) → at ≤ 56 → Ends b 7 at
unfolding sections_of section_names
section_name_ends b s laid at early =
    let below : 56 < (section b 7).size = rw (laid.sections_are 7 (omega arith)) (omega arith) in
    let byte : byte_of b 7 56 ≡ 0 = rw (laid.sections_are 7 (omega arith))
    (byte_of_part b section_names (section_names_at s) 57 56 laid.section_names_are (omega arith)) in
    (56, early, below, byte)
