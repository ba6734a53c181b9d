-- Names, and the files that stand beside them.
use Rattle.std.proofs.Common.{◌≡◌, ◌∙◌, ◌≤◌, ◌<◌, ℕ, suc, zero, Bool, true, false, not, cond, List, [], ◌∷◌, ◌++◌}
use Rattle.std.proofs.Common.{Option, Some, None}
use Rattle.std.proofs.Common.{IsSome, Vec, Bor, refl, sym, ap, subst, length, arith, get_or, nat_lt}
use Rattle.std.specs.Prelude.{◌+◌, if◌then◌else◌, slice_get, unwrap_or, IfSome}
use Rattle.std.specs.List.{All, AllZip, find, position_or_len}
use Rattle.std.specs.Option.{option_map}
use Rattle.std.specs.Str.{bytes_eq}
use Rattle.std.proofs.lemmas.List.Elements.{All-cons, All-head, All-nil, All-tail}
use Rattle.elf_records.specs.FieldLaws.{AreBytes}
use Rattle.ports.specs.Files.{Files, file_at, IsFile}
use Rattle.job_link.specs.Mentions.{bytes_at, bytes_in, AreFilesOf, Fetched}
use Rattle.job_link.specs.Walks.{files_in, is_among, names_of, texts, with_unseen}

-- the test of a name that is lent
abbrev pub is_name : List ℕ → Bor (List ℕ) → Bool
is_name name k = bytes_eq name k.now

-- what holds of what is there
pub if_some : {X : Type 0} (P : X → Type 0) (o : Option X) → ((x : X) → o ≡ Some x → P x) → IfSome o P
if_some P None h = tt
if_some P (Some x) h = h x refl

module _ {A : Type 0} where
  -- the bytes of the file at a place; none where there is none
  abbrev pub content_of : List (Vec ℕ A) → ℕ → List ℕ
  content_of files place = unwrap_or (option_map (λ (file : Vec ℕ A). file.items) (slice_get files place)) []

  pub content_at : (files : List (Vec ℕ A)) (place : ℕ) (file : Vec ℕ A) → place < length files
      → file ≡ get_or files place file → file.items ≡ content_of files place
  content_at [] place file within e = absurd (omega (arith, within))
  content_at (f ∷ files) zero file within e = ap (λ (v : Vec ℕ A). v.items) e
  content_at (f ∷ files) (suc place) file within e = content_at files place file (omega (arith, within)) e

  pub no_content : (files : List (Vec ℕ A)) (place : ℕ) → length files ≤ place → content_of files place ≡ []
  no_content [] place past = refl
  no_content (file ∷ files) zero past = absurd (omega (arith, past))
  no_content (file ∷ files) (suc place) past = no_content files place (omega (arith, past))

  -- a file's bytes are those at the place of its name
  pub found : (name : List ℕ) (names : List (Bor (List ℕ))) (files : List (Vec ℕ A)) → length files ≡ length names
      → bytes_in (files_in names files) name ≡ content_of files (position_or_len (is_name name) names)
  found name [] [] e = refl
  found name [] (file ∷ files) e = cc
  found name (n ∷ names) [] e = cc
  found name (n ∷ names) (file ∷ files) e =
      let place = position_or_len (is_name name) names in
      let next : suc place ≡ 1 + place = omega arith in
      let rest = found name names files (omega (arith, e)) ∙ ap (content_of (file ∷ files)) next in
      elim (bytes_eq name n.now) as (λ b.
      unwrap_or (option_map (λ (f : List ℕ × List ℕ). f.1) (cond b (Some (n.now, file.items))
      (find (λ (f : List ℕ × List ℕ). bytes_eq name f.0) (files_in names files)))) []
      ≡ content_of (file ∷ files) (cond (not b) (1 + position_or_len (is_name name) names) 0)) [
        | true ↦ refl
        | false ↦ rest
      ]

  -- the files are bytes, as each of them is
  pub small_files : (name : List ℕ) (names : List (Bor (List ℕ))) (files : List (Vec ℕ A))
      → All (λ (file : Vec ℕ A). AreBytes file.items) files → AreBytes (bytes_in (files_in names files) name)
  small_files name [] files all = All-nil (λ (byte : ℕ). byte < 256)
  small_files name (n ∷ names) [] all = All-nil (λ (byte : ℕ). byte < 256)
  small_files name (n ∷ names) (file ∷ files) all =
      let rest = small_files name names files (All-tail (λ (f : Vec ℕ A). AreBytes f.items) file files all) in
      elim (bytes_eq name n.now) as (λ b.
      AreBytes (unwrap_or (option_map (λ (f : List ℕ × List ℕ). f.1) (cond b (Some (n.now, file.items))
      (find (λ (f : List ℕ × List ℕ). bytes_eq name f.0) (files_in names files)))) [])) [
        | true ↦ All-head (λ (f : Vec ℕ A). AreBytes f.items) file files all
        | false ↦ rest
      ]

  -- their names
  pub names_are : (names : List (Bor (List ℕ))) (files : List (Vec ℕ A)) → length files ≡ length names
      → names_of (files_in names files) ≡ texts names
  names_are [] [] e = refl
  names_are [] (file ∷ files) e = cc
  names_are (n ∷ names) [] e = cc
  names_are (n ∷ names) (file ∷ files) e = ap (λ r. n.now ∷ r) (names_are names files (omega (arith, e)))

  -- one more
  pub one_behind : (names : List (Bor (List ℕ))) (files : List (Vec ℕ A)) (n : Bor (List ℕ)) (file : Vec ℕ A)
      → length files ≡ length names
      → files_in (names ++ n ∷ []) (files ++ file ∷ []) ≡ files_in names files ++ (n.now, file.items) ∷ []
  one_behind [] [] n file e = refl
  one_behind [] (f ∷ files) n file e = cc
  one_behind (m ∷ names) [] n file e = cc
  one_behind (m ∷ names) (f ∷ files) n file e =
      ap (λ r. (m.now, f.items) ∷ r) (one_behind names files n file (omega (arith, e)))

  -- the files of a store are those of their names
  pub held : (fs : Files) (names : List (Bor (List ℕ))) (files : List (Vec ℕ A))
      → AllZip (λ (n : Bor (List ℕ)) (file : Vec ℕ A). IsFile (Some fs) n.now file.items) names files
      → AreFilesOf fs (texts names) (files_in names files)
  held fs [] [] h = record { there = All-nil (λ name. IsSome (file_at fs name)); files_are = refl }
  held fs [] (file ∷ files) h = absurd h
  held fs (n ∷ names) [] h = absurd h
  held fs (n ∷ names) (file ∷ files) h =
      let rest = held fs names files h.1 in
      record {
        there =
            All-cons (λ name. IsSome (file_at fs name)) n.now (texts names)
            (subst (λ (o : Option (List ℕ)). IsSome o) (sym h.0) refl) rest.there;
        files_are =
            ap (λ (o : Option (List ℕ)). (n.now, unwrap_or o []) ∷ files_in names files) (sym h.0)
            ∙ ap (λ r. (n.now, bytes_at fs n.now) ∷ r) rest.files_are;
      }

-- a file that is there already, and one that is new
pub kept_unseen : (files : Fetched) (name bytes : List ℕ) → is_among (names_of files) name ≡ true
    → files ≡ with_unseen files name bytes
kept_unseen files name bytes e = ap (λ b. if b then files else files ++ (name, bytes) ∷ []) (sym e)

pub new_unseen : (files : Fetched) (name bytes : List ℕ) → is_among (names_of files) name ≡ false
    → files ++ (name, bytes) ∷ [] ≡ with_unseen files name bytes
new_unseen files name bytes e = ap (λ b. if b then files else files ++ (name, bytes) ∷ []) (sym e)

-- a place that is found, and that there is none
pub place_is : (p n place : ℕ) → Some place ≡ cond (nat_lt p n) (Some p) None → (place ≡ p) × (p < n)
place_is p n place e = by (nat_lt p n) refl e
  where
    by : (b : Bool) → nat_lt p n ≡ b → Some place ≡ cond b (Some p) None → (place ≡ p) × (p < n)
    by true is e = (cc, grind (arith, is))
    by false is e = cc

pub no_place : (p n : ℕ) → None ≡ cond (nat_lt p n) (Some p) None → n ≤ p
no_place p n e = by (nat_lt p n) refl e
  where
    by : (b : Bool) → nat_lt p n ≡ b → None ≡ cond b (Some p) None → n ≤ p
    by true is e = cc
    by false is e = grind (arith, is)
