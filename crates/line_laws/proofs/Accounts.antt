-- Each legal history has one account, which the walk along its events keeps.
use Rattle.std.proofs.Common.{◌≡◌, ◌∙◌, ◌+◌, ◌≤◌, ◌++◌, ℕ, zero, suc, Bool, true, false, List, [], ◌∷◌, get_or, length}
use Rattle.std.proofs.Common.{take, Some, None, refl, sym, ap, subst, inl, inr, arith}
use Rattle.std.specs.Prelude.{◌&&◌, not, slice_get, unwrap_or, if◌then◌else◌}
use Rattle.std.proofs.lemmas.Bool.{cases_Bool, and_parts}
use Rattle.std.proofs.lemmas.List.{take_all, take_more}
use Rattle.std.proofs.lemmas.Option.{get_or_from_slice_get, slice_get-get_or, slice_get_within}
use Rattle.module_table.specs.declared.modules.ImageInfo.{ImageInfo}
use Rattle.module_table.specs.declared.events.Event.{Event}
use Rattle.module_table.specs.Past.{IsLegal}
use Rattle.module_table.specs.Modules.{is_loaded}
use Rattle.module_table.specs.Past.{Past, after, after_one, loaded, module_of, next_offset, opened, past, released}
use Rattle.module_table.specs.Past.{retained, start}
use Rattle.module_table.specs.Walks.{legal_front, past-append}
use Rattle.line_laws.specs.Histories.{HistoriesHaveAccounts, IsAccount, IsNextBlock, IsStatic, Loads, OpensAreRuled}
use Rattle.line_laws.proofs.Histories.{gone_of, next_block, of_gone, of_static, one_block, open_ruled, static_of}

-- ** one event more

limit_stays : (p : Past) (e : Event) → (after_one p e).limit ≡ p.limit
unfolding after_one opened loaded retained released
limit_stays p e = elim e.opens as
    (λ b. (if b then (if is_loaded (module_of p e.image) then retained p e.image else loaded p e.image)
    else released p e.image).limit ≡ p.limit) [
      | true ↦ elim (is_loaded (module_of p e.image)) as
          (λ b. (if b then retained p e.image else loaded p e.image).limit ≡ p.limit) [ true ↦ refl | false ↦ refl ]
      | false ↦ refl
    ]

limit_along : (p : Past) (events : List Event) → (after p events).limit ≡ p.limit
limit_along p [] = refl
limit_along p (e ∷ es) = limit_along (after_one p e) es ∙ limit_stays p e

pub limit_is : (infos : List ImageInfo) (last : ℕ) (events : List Event) → (past infos last events).limit ≡ last + 4096
unfolding past start
limit_is infos last events = limit_along (start infos last) events

-- an event that loads its image
load_made : (p : Past) (e : Event) → e.opens ≡ true → is_loaded (module_of p e.image) ≡ false
    → (after_one p e).made ≡ p.made + 1
unfolding after_one opened loaded
load_made p e opens gone = rw (opens, gone) refl

load_reach : (p : Past) (e : Event) → e.opens ≡ true → is_loaded (module_of p e.image) ≡ false
    → (after_one p e).taken
    ≡ (if (module_of p e.image).info.statics then next_offset p (module_of p e.image) else p.taken)
unfolding after_one opened loaded
load_reach p e opens gone = rw (opens, gone) (elim (module_of p e.image).info.statics as
    (λ b. unwrap_or (if b then Some (next_offset p (module_of p e.image)) else None) p.taken
    ≡ (if b then next_offset p (module_of p e.image) else p.taken)) [ true ↦ refl | false ↦ refl ])

-- any other
other_same : (p : Past) (e : Event) → (e.opens && not (is_loaded (module_of p e.image))) ≡ false
    → ((after_one p e).made ≡ p.made) × ((after_one p e).taken ≡ p.taken)
unfolding after_one opened retained released
other_same p e none = elim (cases_Bool e.opens) [
  | inl opens ↦ elim (cases_Bool (is_loaded (module_of p e.image))) [
    | inl held ↦ rw (opens, held) (refl, refl)
    | inr gone ↦ let never : (e.opens && not (is_loaded (module_of p e.image))) ≡ true = rw (opens, gone) refl in
        absurd cc
  ]
  | inr closes ↦ rw closes (refl, refl)
]

module _ (infos : List ImageInfo) (last : ℕ) (events : List Event) (legal : IsLegal infos last events) where
  abbrev at : ℕ → Past
  at k = past infos last (take k events)

  front : (k : ℕ) → IsLegal infos last (take k events)
  front k = record { images = legal.images; low = legal.low; each = legal_front (start infos last) events k legal.each }

  step_at : (k : ℕ) (e : Event) → slice_get events k ≡ Some e → at (suc k) ≡ after_one (at k) e
  step_at k e found =
      let within = slice_get_within events k e found in
      let next : k + 1 ≡ suc k = omega arith in
      let more : take (suc k) events ≡ take k events ++ e ∷ [] =
      ap (λ (n : ℕ). take n events) (sym next)
      ∙ (take_more events k e within
      ∙ ap (λ (x : Event). take k events ++ x ∷ []) (get_or_from_slice_get events k e e found)) in
      ap (past infos last) more ∙ past-append infos last (take k events) (e ∷ [])

  is_load : (k : ℕ) (e : Event) → (e.opens && not (is_loaded (module_of (at k) e.image))) ≡ true
      → Loads infos (take k events) e
  is_load k e both =
      let parts = and_parts e.opens (not (is_loaded (module_of (at k) e.image))) both in (
        parts.0,
        gone_of infos last (take k events) (front k) e.image
            (none (is_loaded (module_of (at k) e.image)) parts.1),
      )
    where
      none : (b : Bool) → not b ≡ true → b ≡ false
      none true e = cc
      none false e = refl

  not_load : (k : ℕ) (e : Event) → (Loads infos (take k events) e → ⊥)
      → (e.opens && not (is_loaded (module_of (at k) e.image))) ≡ false
  not_load k e never = elim (cases_Bool (e.opens && not (is_loaded (module_of (at k) e.image)))) [
    | inl both ↦ absurd (never (is_load k e both))
    | inr none ↦ none
  ]

  load_gone : (k : ℕ) (e : Event) → Loads infos (take k events) e → is_loaded (module_of (at k) e.image) ≡ false
  load_gone k e loads = of_gone infos last (take k events) (front k) e.image loads.1

  -- what a load does
  loads_made : (k : ℕ) (e : Event) → slice_get events k ≡ Some e → Loads infos (take k events) e
      → (at (suc k)).made ≡ (at k).made + 1
  loads_made k e found loads =
      ap (λ (p : Past). p.made) (step_at k e found) ∙ load_made (at k) e loads.0 (load_gone k e loads)

  others_same : (k : ℕ) (e : Event) → slice_get events k ≡ Some e → (Loads infos (take k events) e → ⊥)
      → ((at (suc k)).made ≡ (at k).made) × ((at (suc k)).taken ≡ (at k).taken)
  others_same k e found never =
      let same = other_same (at k) e (not_load k e never) in
      (ap (λ (p : Past). p.made) (step_at k e found) ∙ same.0, ap (λ (p : Past). p.taken) (step_at k e found) ∙ same.1)

  static_reach : (k : ℕ) (e : Event) → slice_get events k ≡ Some e → Loads infos (take k events) e
      → (is : IsStatic infos e.image) → IsNextBlock infos e.image (at k).taken (at (suc k)).taken
  static_reach k e found loads is =
      let wants = of_static infos last (take k events) (front k) e.image is in
      let there : (at (suc k)).taken ≡ next_offset (at k) (module_of (at k) e.image) =
      ap (λ (p : Past). p.taken) (step_at k e found)
      ∙ (load_reach (at k) e loads.0 (load_gone k e loads) ∙ (rw wants refl)) in
      subst (λ (n : ℕ). IsNextBlock infos e.image (at k).taken n) (sym there)
      (next_block infos last (take k events) (front k) e.image is.0 is.1.0)

  plain_reach : (k : ℕ) (e : Event) → slice_get events k ≡ Some e → Loads infos (take k events) e
      → (IsStatic infos e.image → ⊥) → (at (suc k)).taken ≡ (at k).taken
  plain_reach k e found loads never = elim (cases_Bool (module_of (at k) e.image).info.statics) [
    | inl wants ↦ absurd (never (static_of infos last (take k events) (front k) e.image wants))
    | inr none ↦ ap (λ (p : Past). p.taken) (step_at k e found)
        ∙ (load_reach (at k) e loads.0 (load_gone k e loads) ∙ (rw none refl))
  ]

  account : IsAccount infos last events (λ k. (at k).made) (λ k. (at k).taken)
  unfolding past start
  account = record {
    made_first = refl;
    reach_first = refl;
    loads = loads_made;
    others = others_same;
    blocks = static_reach;
    no_blocks = plain_reach;
  }

  -- ** it is the only one

  module _ (made reach : ℕ → ℕ) (is : IsAccount infos last events made reach) where
    abbrev Agrees : ℕ → Type 0
    Agrees k = (made k ≡ (at k).made) × (reach k ≡ (at k).taken)

    of_load : (k : ℕ) (e : Event) → slice_get events k ≡ Some e → Agrees k → Loads infos (take k events) e
        → Agrees (suc k)
    of_load k e found same loads = (
      is.loads k e found loads ∙ (ap (λ (n : ℕ). n + 1) same.0 ∙ sym (loads_made k e found loads)),
      elim (cases_Bool (module_of (at k) e.image).info.statics) [
        | inl wants ↦
            let static = static_of infos last (take k events) (front k) e.image wants in
            one_block infos last (take k events) (front k) e.image (at k).taken (reach (suc k)) (at (suc k)).taken
            (subst (λ (n : ℕ). IsNextBlock infos e.image n (reach (suc k))) same.1 (is.blocks k e found loads static))
            (static_reach k e found loads static)
        | inr none ↦
            let never : IsStatic infos e.image
            → ⊥ = λ static. let t = of_static infos last (take k events) (front k) e.image static in absurd cc in
            is.no_blocks k e found loads never ∙ (same.1 ∙ sym (plain_reach k e found loads never))
      ],
    )

    of_other : (k : ℕ) (e : Event) → slice_get events k ≡ Some e → Agrees k → (Loads infos (take k events) e → ⊥)
        → Agrees (suc k)
    of_other k e found same never =
        let mine = is.others k e found never in
        let its = others_same k e found never in
        (mine.0 ∙ (same.0 ∙ sym its.0), mine.1 ∙ (same.1 ∙ sym its.1))

    agrees : (k : ℕ) → k ≤ length events → Agrees k
    unfolding past start
    agrees zero low = (is.made_first, is.reach_first)
    agrees (suc k) low =
        let e : Event = get_or events k (record { thread = 0; line = 0; opens = true; image = 0 }) in
        let found = slice_get-get_or events k (record { thread = 0; line = 0; opens = true; image = 0 })
        (omega arith) in
        let same = agrees k (omega arith) in
        elim (cases_Bool (e.opens && not (is_loaded (module_of (at k) e.image)))) [
          | inl both ↦ of_load k e found same (is_load k e both)
          | inr none ↦ of_other k e found same (λ loads.
              let gone = load_gone k e loads in
              let opens = loads.0 in
              let yes : (e.opens && not (is_loaded (module_of (at k) e.image))) ≡ true = rw (opens, gone) refl in
              absurd cc)
        ]

    whole : (made (length events) ≡ (past infos last events).made)
        × (reach (length events) ≡ (past infos last events).taken)
    whole =
        let same = agrees (length events) (omega arith) in
        let all : take (length events) events ≡ events = take_all (length events) events (omega arith) in (
          same.0 ∙ ap (λ (es : List Event). (past infos last es).made) all,
          same.1 ∙ ap (λ (es : List Event). (past infos last es).taken) all,
        )

-- ** the laws

pub have_accounts : HistoriesHaveAccounts
have_accounts infos last events legal = (
  λ k. (past infos last (take k events)).made,
  (λ k. (past infos last (take k events)).taken, account infos last events legal),
)

pub opens_ruled : OpensAreRuled
opens_ruled infos last events made reach image legal is answer =
    let same = whole infos last events legal made reach is in
    rw (same.0, same.1) (open_ruled infos last events legal (limit_is infos last events) image answer)
