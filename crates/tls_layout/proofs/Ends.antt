-- Where the sections of a class end, and what a pass does at one more section.
use Rattle.std.proofs.Common.{◌≡◌, ◌≢◌, ℕ, ◌+◌, ◌<◌, ◌≤◌, Bool, true, false, List, [], ◌∷◌, length, get_or, take, drop}
use Rattle.std.proofs.Common.{Option, Some, None, refl, sym, ap, ◌∙◌, arith, below_more}
use Rattle.std.specs.Prelude.{fold, if◌then◌else◌}
use Rattle.std.proofs.Math.ListN.{set}
use Rattle.std.proofs.lemmas.List.{get_or_default, get_or-set_same, get_or-set_other, take_all, take-append-drop}
use Rattle.std.proofs.lemmas.List.Sums.{fold_more, fold-append}
use Rattle.object_faults.specs.declared.class.SectionClass.{SectionClass}
use Rattle.tls_layout.specs.declared.sections.Section.{Section}
use Rattle.tls_layout.specs.Rounding.{round_up}
use Rattle.tls_layout.specs.Sections.{section_at, is_in, dropped}
use Rattle.tls_layout.specs.Places.{next_end, end_of, place_in}
use Rattle.tls_layout.specs.Passes.{GivesPlacesBelow, KeepsFrom}
use Rattle.tls_layout.proofs.Rounds.{round_up-above}

-- the end never goes down
pub next_end-rises : (class : SectionClass) (end : ℕ) (section : Section) → end ≤ next_end class end section
next_end-rises class end section = of_test (is_in class section)
  where
    of_test : (t : Bool) → end ≤ (if t then round_up end section.alignment + section.size else end)
    of_test true = omega (arith, round_up-above end section.alignment)
    of_test false = omega arith

folds_up : (class : SectionClass) (from : ℕ) (sections : List Section) → from ≤ fold (next_end class) from sections
folds_up class from [] = omega arith
folds_up class from (s ∷ rest) =
    let once = next_end-rises class from s in
    let later = folds_up class (next_end class from s) rest in
    omega (arith, once, later)

pub end_of-rises : (class : SectionClass) (from : ℕ) (sections : List Section) → from ≤ end_of class from sections
unfolding end_of
end_of-rises class from sections = folds_up class from sections

-- one more section
pub end_of-more : (class : SectionClass) (from : ℕ) (sections : List Section) (i : ℕ) (d : Section)
    → i < length sections
    → end_of class from (take (i + 1) sections)
    ≡ next_end class (end_of class from (take i sections)) (get_or sections i d)
unfolding end_of
end_of-more class from sections i d l = fold_more (next_end class) from sections i d l

pub end_of-all : (class : SectionClass) (from : ℕ) (sections : List Section) (i : ℕ) → length sections ≤ i
    → end_of class from (take i sections) ≡ end_of class from sections
end_of-all class from sections i l = ap (end_of class from) (take_all i sections l)

pub end_of-none : (class : SectionClass) (from : ℕ) (sections : List Section)
    → from ≡ end_of class from (take 0 sections)
unfolding end_of
end_of-none class from sections = refl

-- those in front end first
pub end_of-front : (class : SectionClass) (from : ℕ) (sections : List Section) (i : ℕ)
    → end_of class from (take i sections) ≤ end_of class from sections
unfolding end_of
end_of-front class from sections i =
    let split : fold (next_end class) from sections
    ≡ fold (next_end class) (fold (next_end class) from (take i sections)) (drop i sections) =
    ap (fold (next_end class) from) (sym (take-append-drop i sections))
    ∙ fold-append (next_end class) from (take i sections) (drop i sections) in
    rw split (folds_up class (fold (next_end class) from (take i sections)) (drop i sections))

-- a section of the class has its place from the end of those before it
place_is : (class : SectionClass) (from : ℕ) (sections : List Section) (i end : ℕ) (d : Section) → i < length sections
    → end ≡ end_of class from (take i sections)
    → round_up end (get_or sections i d).alignment ≡ place_in class from sections i
unfolding place_in
place_is class from sections i end d l e = rw (e, get_or_default sections i d dropped l) refl

pub gives_more : (class : SectionClass) (from : ℕ) (sections : List Section) (old new : List (Option ℕ)) (i end : ℕ)
    (v : Option ℕ) (d : Section) (e : Option ℕ)
    → i < length sections → length new ≡ length sections → end ≡ end_of class from (take i sections)
    → GivesPlacesBelow i class from sections old new → KeepsFrom i old new
    → v ≡ (if is_in class (get_or sections i d) then Some (round_up end (get_or sections i d).alignment)
    else get_or new i e)
    → GivesPlacesBelow (i + 1) class from sections old (set new i v)
gives_more class from sections old new i end v d e l len at below above is = below_more _ _
    (λ k h. let other : k ≢ i = omega arith in get_or-set_other new i k v None other ∙ below k h)
    (get_or-set_same new i v None (omega arith) ∙ (is ∙ here))
  where
    here : (if is_in class (get_or sections i d) then Some (round_up end (get_or sections i d).alignment)
        else get_or new i e)
        ≡ (if is_in class (section_at sections i) then Some (place_in class from sections i) else get_or old i None)
    here = rw (
      place_is class from sections i end d l at,
      get_or_default sections i d dropped l,
      get_or_default new i e None (omega arith),
      above i (omega arith),
    ) refl

pub keeps_more : (old new : List (Option ℕ)) (i : ℕ) (v : Option ℕ) → KeepsFrom i old new
    → KeepsFrom (i + 1) old (set new i v)
keeps_more old new i v above k h = let other : k ≢ i = omega arith in
    get_or-set_other new i k v None other ∙ above k (omega arith)

pub end_at : (class : SectionClass) (from : ℕ) (sections : List Section) (i end r : ℕ) (d : Section)
    → i < length sections
    → end ≡ end_of class from (take i sections) → r ≡ next_end class end (get_or sections i d)
    → r ≡ end_of class from (take (i + 1) sections)
end_at class from sections i end r d l at is = rw (end_of-more class from sections i d l, ← at) is
