-- Sections that follow each other.
use Rattle.std.proofs.Common.{◌≡◌, ◌+◌, ◌-◌, ◌<◌, ◌≤◌, ◌∙◌, ℕ, Bool, true, List, [], ◌∷◌, ◌++◌, length, refl, sym, ap}
use Rattle.std.proofs.Common.{append_assoc, arith, inl, inr}
use Rattle.std.specs.Prelude.{nat_lt, if◌then◌else◌}
use Rattle.std.proofs.lemmas.Bool.{cases_lt, lt-ltb, le-ltb}
use Rattle.tls_relocs.specs.Laid.{Placed, Rising, end_of, laid, zeros}
pub use Rattle.tls_relocs.specs.LaidLaws.{length-laid as laid-length}

-- sections that rise from a place on and end at or before another; there are none where there is no room between.
-- Where all of the room is theirs, the last ends at its end
pub record Lies (full : Bool) (at : ℕ) (xs : List Placed) (end : ℕ) : Type 0 where
  pub rising : Rising at xs
  pub within : end_of at xs ≤ end
  pub none : end ≤ at → xs ≡ []
  pub ends : full ≡ true → end_of at xs ≡ end

pub end_of-append : (at : ℕ) (xs ys : List Placed) → end_of at (xs ++ ys) ≡ end_of (end_of at xs) ys
end_of-append at [] ys = refl
end_of-append at (x ∷ xs) ys = end_of-append (x.place + length x.bytes) xs ys

pub rising-append : (at : ℕ) (xs ys : List Placed) → Rising at xs → Rising (end_of at xs) ys → Rising at (xs ++ ys)
rising-append at [] ys front back = back
rising-append at (x ∷ xs) ys front back = (front.0, rising-append (x.place + length x.bytes) xs ys front.1 back)

pub end_of-above : (at : ℕ) (xs : List Placed) → Rising at xs → at ≤ end_of at xs
end_of-above at [] rising = omega arith
end_of-above at (x ∷ xs) rising =
    let rises : at ≤ x.place = rising.0 in
    let more = end_of-above (x.place + length x.bytes) xs rising.1 in
    omega arith

-- cut in two, each part rises from where the one before it ends
pub rising-split : (at : ℕ) (xs ys : List Placed) → Rising at (xs ++ ys) → Rising at xs × Rising (end_of at xs) ys
rising-split at [] ys rising = (tt, rising)
rising-split at (x ∷ xs) ys rising =
    let more = rising-split (x.place + length x.bytes) xs ys rising.1 in
    ((rising.0, more.0), more.1)

pub laid-append : (at : ℕ) (xs ys : List Placed) → laid at (xs ++ ys) ≡ laid at xs ++ laid (end_of at xs) ys
laid-append at [] ys = refl
laid-append at (x ∷ xs) ys =
    let next = x.place + length x.bytes in
    let gap = zeros (x.place - at) in
    ap (λ more. gap ++ (x.bytes ++ more)) (laid-append next xs ys)
    ∙ ap (λ more. gap ++ more) (sym (append_assoc x.bytes (laid next xs) (laid (end_of next xs) ys)))
    ∙ sym (append_assoc gap (x.bytes ++ laid next xs) (laid (end_of next xs) ys))

-- they also rise from a lower place on
pub rising-below : (at low : ℕ) (xs : List Placed) → low ≤ at → Rising at xs → Rising low xs
rising-below at low [] below rising = tt
rising-below at low (x ∷ xs) below rising = let rises : at ≤ x.place = rising.0 in (omega arith, rising.1)

end_of-below : (at low end : ℕ) (xs : List Placed) → low ≤ at → end_of at xs ≤ end → end_of low xs ≤ end
end_of-below at low end [] below within = omega arith
end_of-below at low end (x ∷ xs) below within = within

both_none : (xs ys : List Placed) → xs ≡ [] → ys ≡ [] → xs ++ ys ≡ []
both_none xs ys e f = rw (e, f) refl

pub lies-append : (full : Bool) (at mid end : ℕ) (xs ys : List Placed) → Lies full at xs mid → Lies full mid ys end
    → Lies full at (xs ++ ys) end
lies-append full at mid end xs ys front back =
    let first = end_of-above at xs front.rising in
    let second = end_of-above mid ys back.rising in
    let upto = front.within in
    let upon = back.within in
    record {
      rising = rising-append at xs ys front.rising (rising-below mid (end_of at xs) ys upto back.rising);
      within = rw (end_of-append at xs ys) (end_of-below mid (end_of at xs) end ys upto upon);
      none = λ h. both_none xs ys (front.none (omega arith)) (back.none (omega arith));
      ends = λ h. end_of-append at xs ys ∙ ap (λ n. end_of n ys) (front.ends h) ∙ back.ends h;
    }

-- behind what ends earlier they rise too, and the end is theirs if there is room for them
pub record Follows (from at end : ℕ) (xs : List Placed) : Type 0 where
  pub rising : Rising from xs
  pub ends : end_of from xs ≡ (if nat_lt at end then end else from)

pub follows : (from at end : ℕ) (xs : List Placed) → from ≤ at → Lies true at xs end → Follows from at end xs
follows from at end xs low lies = elim (cases_lt at end) [
  | inl some ↦ record {
    rising = rising-below at from xs low lies.rising;
    ends = rw (lt-ltb at end some) (same xs (lies.ends refl) some);
  }
  | inr none ↦ record {
    rising = rising-below at from xs low lies.rising;
    ends = rw (le-ltb at end none) (rw (lies.none none) refl);
  }
]
  where
    same : (xs : List Placed) → end_of at xs ≡ end → at < end → end_of from xs ≡ end
    same [] e some = absurd (omega arith)
    same (x ∷ xs) e some = e
