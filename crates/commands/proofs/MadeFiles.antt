-- Files that are held as if they were fetched: the first of each name.
use Rattle.std.proofs.Common.{◌≡◌, ◌∙◌, ◌+◌, ◌<◌, ◌≤◌, ◌||◌, ℕ, get_or, length, take, take_all, Bool, true, false, cond}
use Rattle.std.proofs.Common.{List, [], ◌∷◌, ◌++◌, Option, Some, None, is_some, inl, inr, refl, sym, ap, subst}
use Rattle.std.specs.Prelude.{◌⊎◌, unwrap_or, if◌then◌else◌}
use Rattle.std.specs.List.{find}
use Rattle.std.specs.Option.{option_map, option_or}
use Rattle.std.specs.Str.{bytes_eq}
use Rattle.std.proofs.Math.Path.{fun_ext}
use Rattle.std.proofs.lemmas.List.{take_more}
use Rattle.std.proofs.lemmas.List.Folds.{find-append}
use Rattle.std.proofs.lemmas.Slice.Eq.{bytes_eq-Decides}
use Rattle.job_link.specs.Mentions.{Fetched, bytes_in}
use Rattle.job_link.specs.Walks.{is_among, names_of, with_unseen}

abbrev pub File : Type 0
File = List ℕ × List ℕ

-- the file of a name
abbrev pub look : List ℕ → Fetched → Option File
look name files = find (λ (file : File). bytes_eq name file.0) files

-- the same files are found in both
abbrev pub FindAlike : Fetched → Fetched → Type 0
FindAlike files others = (name : List ℕ) → look name files ≡ look name others

-- a name is among those of the files where its file is found
among_found : (files : Fetched) (name : List ℕ) → is_among (names_of files) name ≡ is_some (look name files)
among_found [] name = refl
among_found (file ∷ files) name =
    elim (bytes_eq name file.0) as (λ b.
    (b || is_among (names_of files) name) ≡ is_some (cond b (Some file) (look name files))) [
      | true ↦ refl
      | false ↦ among_found files name
    ]

-- a file that is found hides those behind it
first_found : (found : Option File) (x : Bool) (file : File) → is_some found ≡ true ⊎ x ≡ false
    → found ≡ option_or found (cond x (Some file) None)
first_found (Some f) x file h = refl
first_found None true file (inl some) = cc
first_found None true file (inr other) = cc
first_found None false file h = refl

-- one more file
pub find_more : (files others : Fetched) (name bytes : List ℕ) → FindAlike files others
    → FindAlike (with_unseen files name bytes) (others ++ (name, bytes) ∷ [])
find_more files others name bytes alike x = by (is_among (names_of files) name) refl
  where
    behind : look x (others ++ (name, bytes) ∷ [])
        ≡ option_or (look x others) (cond (bytes_eq x name) (Some (name, bytes)) None)
    behind = find-append (λ (file : File). bytes_eq x file.0) others ((name, bytes) ∷ [])

    hidden : is_some (look name files) ≡ true → (b : Bool) → bytes_eq x name ≡ b
        → (is_some (look x others) ≡ true) ⊎ (b ≡ false)
    hidden some true e =
        let same : x ≡ name = (bytes_eq-Decides x name).0 e in
        inl (ap is_some (sym (alike x)) ∙ ap (λ (n : List ℕ). is_some (look n files)) same ∙ some)
    hidden some false e = inr refl

    by : (b : Bool) → is_among (names_of files) name ≡ b
        → look x (if b then files else files ++ (name, bytes) ∷ []) ≡ look x (others ++ (name, bytes) ∷ [])
    by true e =
        let some : is_some (look name files) ≡ true = sym (among_found files name) ∙ e in
        alike x ∙ first_found (look x others) (bytes_eq x name) (name, bytes) (hidden some (bytes_eq x name) refl)
        ∙ sym behind
    by false e =
        find-append (λ (file : File). bytes_eq x file.0) files ((name, bytes) ∷ [])
        ∙ ap (λ (f : Option File). option_or f (cond (bytes_eq x name) (Some (name, bytes)) None)) (alike x)
        ∙ sym behind

-- so the same bytes are found
pub bytes_alike : (files others : Fetched) → FindAlike files others → bytes_in files ≡ bytes_in others
bytes_alike files others alike =
    fun_ext (λ name. ap (λ (f : Option File). unwrap_or (option_map (λ (file : File). file.1) f) []) (alike name))

-- all of some files
pub all_alike : (files others : Fetched) (i : ℕ) → FindAlike files (take i others) → length others ≤ i
    → bytes_in files ≡ bytes_in others
all_alike files others i alike past =
    bytes_alike files others (subst (λ (fs : Fetched). FindAlike files fs) (take_all i others past) alike)

-- the next of them
pub next_alike : (files after others : Fetched) (i : ℕ) (file : File) (name bytes : List ℕ)
    → FindAlike files (take i others)
    → after ≡ with_unseen files name bytes → name ≡ file.0 → bytes ≡ file.1 → i < length others
    → file ≡ get_or others i file → FindAlike after (take (i + 1) others)
next_alike files after others i file name bytes alike is n b below here =
    let pair : file ≡ (name, bytes) = rw (n, b) refl in
    let last : take (i + 1) others ≡ take i others ++ (name, bytes) ∷ [] =
    take_more others i file below ∙ ap (λ (f : File). take i others ++ f ∷ []) (sym here ∙ pair) in
    subst (λ (fs : Fetched). FindAlike fs (take (i + 1) others)) (sym is)
    (subst (λ (fs : Fetched). FindAlike (with_unseen files name bytes) fs) (sym last)
    (find_more files (take i others) name bytes alike))
