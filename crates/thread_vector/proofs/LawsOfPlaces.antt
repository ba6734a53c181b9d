-- Where blocks lie.
use Rattle.std.proofs.Common.{◌≡◌, ◌≢◌, ℕ, zero, suc, ◌+◌, ◌-◌, ◌*◌, ◌<◌, ◌≤◌, ◌^◌, true, false, List, [], ◌∷◌, length}
use Rattle.std.proofs.Common.{get_or, Option, Some, None, sym, refl, ap, ◌∙◌, arith, inl, inr}
use Rattle.std.specs.Prelude.{take, is_some}
use Rattle.std.specs.Int.{next_multiple_of}
use Rattle.std.proofs.lemmas.Option.{same_Some}
use Rattle.std.proofs.lemmas.Bool.{cases_Bool, cases_lt, true≢false}
use Rattle.address_map.specs.Map.{block_place}
use Rattle.module_table.specs.declared.TheConstants.{SURPLUS, MOST_INSTANCES}
use Rattle.module_table.specs.declared.modules.ImageInfo.{ImageInfo}
use Rattle.module_table.specs.Modules.{is_loaded, no_module}
use Rattle.module_table.specs.Past.{Past, module_of}
use Rattle.module_table.specs.PastLaws.{image_of, live}
use Rattle.module_table.specs.Modules.{startup_end}
use Rattle.module_table.proofs.Infos.{info_of}
use Rattle.module_table.proofs.Steps.{loaded_within, numbered_at}
use Rattle.loaded_modules.specs.Images.{JobImages, infos, last_offset, static_offset}
use Rattle.thread_vector.specs.Addresses.{distance_of, start_of}
use Rattle.thread_vector.specs.Holding.{IsLeftBy}
use Rattle.thread_vector.specs.Laws.{BlocksAreApart, BlocksLieBelow, Covers, IsBelow, ThreadsAreApart, block_length}
use Rattle.thread_vector.proofs.Facts.{Facts, facts, image_has}
use Rattle.thread_vector.proofs.Starts.{end_past, past_size, start_some, static_low}

-- ---- startup blocks

end_grows : (xs : List ImageInfo) (m n taken : ℕ) → m ≤ n
    → startup_end (take m xs) taken ≤ startup_end (take n xs) taken
end_grows xs zero n taken l = end_past (take n xs) taken
end_grows [] (suc m) zero taken l = omega arith
end_grows [] (suc m) (suc n) taken l = omega arith
end_grows (x ∷ xs) (suc m) zero taken l = absurd (omega arith)
end_grows (x ∷ xs) (suc m) (suc n) taken l = elim (cases_Bool x.late) [
  | inl t ↦ rw t (end_grows xs m n taken (omega arith))
  | inr f ↦ rw f (end_grows xs m n (next_multiple_of (taken + x.size) x.align) (omega arith))
]

end_step : (xs : List ImageInfo) (n taken : ℕ) (d : ImageInfo) → n < length xs → (get_or xs n d).late ≡ false
    → startup_end (take n xs) taken + (get_or xs n d).size ≤ startup_end (take (suc n) xs) taken
end_step [] n taken d l early = absurd (omega arith)
end_step (x ∷ xs) zero taken d l early = rw early (past_size taken x)
end_step (x ∷ xs) (suc n) taken d l early = elim (cases_Bool x.late) [
  | inl t ↦ rw t (end_step xs n taken d (omega arith) early)
  | inr f ↦ rw f (end_step xs n (next_multiple_of (taken + x.size) x.align) d (omega arith) early)
]

-- a startup block lies past those of the images before it
record Startup (images : JobImages) (p : Past) (b : ℕ) : Type 0 where
  pub past : (a : ℕ) → a < b → static_offset images a + (module_of p b).info.size ≤ static_offset images b

startup_past : (images : JobImages) (p : Past) (b : ℕ) → Facts images p → is_loaded (module_of p b) ≡ true
    → (module_of p b).info.late ≡ false → Startup images p b
unfolding static_offset
startup_past images p b f loaded early =
    let within = loaded_within p b f.is loaded in
    let e : b - 1 + 1 ≡ b = omega (arith, within.1) in
    let n : suc (b - 1) ≡ b = omega (arith, within.1) in
    let info : (module_of p b).info ≡ get_or (infos images) (b - 1) no_module.info =
    ap (λ (j : ℕ). (module_of p j).info) (sym e) ∙ f.infos (b - 1) in
    let step : startup_end (take (b - 1) (infos images)) 0
    + (get_or (infos images) (b - 1) no_module.info).size ≤ startup_end (take (suc (b - 1)) (infos images)) 0 =
    end_step (infos images) (b - 1) 0 no_module.info (omega (arith, within.0, within.1, f.long))
    (sym (ap (λ (i : ImageInfo). i.late) info) ∙ early) in
    let end : startup_end (take (suc (b - 1)) (infos images)) 0 ≡ startup_end (take b (infos images)) 0 =
    ap (λ (k : ℕ). startup_end (take k (infos images)) 0) n in
    let size : (module_of p b).info.size ≡ (get_or (infos images) (b - 1) no_module.info).size =
    ap (λ (i : ImageInfo). i.size) info in
    record { past = λ a l. omega (arith, end_grows (infos images) a (b - 1) 0 (omega arith), step, end, size) }

-- ---- distances

-- a block at a fixed distance below the thread pointer ends at the thread pointer or below it
record Fixed (size distance : ℕ) : Type 0 where
  pub fits : size ≤ distance
  pub near : distance < 2 ^ 28

fixed : (images : JobImages) (p : Past) (a distance : ℕ) → IsLeftBy images p → is_loaded (module_of p a) ≡ true
    → distance_of images a (module_of p a) ≡ Some distance → Fixed (module_of p a).info.size distance
fixed images p a distance l loaded e = elim (cases_Bool (module_of p a).info.late) [
  | inl late ↦
      let at : (module_of p a).offset ≡ Some distance = sym (rw late refl) ∙ e in
      let above : last_offset images + (module_of p a).info.size ≤ distance =
      (facts images p l).apart.above a distance at in
      let below : distance ≤ last_offset images + SURPLUS = (facts images p l).apart.below a distance at in
      record { fits = omega arith; near = omega (arith, l.legal.low) }
  | inr early ↦
      let at : static_offset images a ≡ distance =
      same_Some (static_offset images a) distance (sym (rw early refl) ∙ e) in
      let low : 1 ≤ a = (loaded_within p a (facts images p l).is loaded).1 in
      record {
        fits = omega (arith, (startup_past images p a (facts images p l) loaded early).past 0 (omega arith), at);
        near = omega (arith, static_low images a, at, l.legal.low);
      }
]

-- no distance is in two such blocks
fixed_apart : (images : JobImages) (p : Past) (a b x y d : ℕ) → IsLeftBy images p → a ≢ b
    → is_loaded (module_of p a) ≡ true → is_loaded (module_of p b) ≡ true
    → distance_of images a (module_of p a) ≡ Some x → distance_of images b (module_of p b) ≡ Some y → d ≤ x
    → x < d + (module_of p a).info.size → d ≤ y → y < d + (module_of p b).info.size → ⊥
fixed_apart images p a b x y d l ne one two ex ey a1 a2 b1 b2 = elim (cases_Bool (module_of p a).info.late) [
  | inl late ↦
      let at : (module_of p a).offset ≡ Some x = sym (rw late refl) ∙ ex in
      let above : last_offset images + (module_of p a).info.size ≤ x = f.apart.above a x at in
      elim (cases_Bool (module_of p b).info.late) [
        | inl late' ↦ f.apart.apart a b x y ne at (sym (rw late' refl) ∙ ey) d (a1, a2) (b1, b2)
        | inr early ↦
            let at' : static_offset images b ≡ y = same_Some (static_offset images b) y (sym (rw early refl) ∙ ey) in
            absurd (omega (arith, static_low images b, at'))
      ]
  | inr early ↦
      let at : static_offset images a ≡ x = same_Some (static_offset images a) x (sym (rw early refl) ∙ ex) in
      elim (cases_Bool (module_of p b).info.late) [
        | inl late ↦
            let above : last_offset images + (module_of p b).info.size ≤ y =
            f.apart.above b y (sym (rw late refl) ∙ ey) in
            absurd (omega (arith, static_low images a, at))
        | inr early' ↦
            let at' : static_offset images b ≡ y = same_Some (static_offset images b) y (sym (rw early' refl) ∙ ey) in
            elim (cases_lt a b) [
              | inl before ↦ absurd (omega (arith, (startup_past images p b f two early').past a before, at, at'))
              | inr h ↦ elim (cases_lt b a) [
                | inl after ↦ absurd (omega (arith, (startup_past images p a f one early).past b after, at, at'))
                | inr h' ↦ ne (let same : a ≡ b = omega arith in same)
              ]
            ]
      ]
]
  where
    f : Facts images p
    f = facts images p l

-- ---- addresses

-- an address of a block, by the distance of the image's blocks
record At (thread i size address : ℕ) (distance : Option ℕ) : Type 0 where
  pub from : block_place thread i distance ≤ address
  pub to : address < block_place thread i distance + size

record Lives (images : JobImages) (p : Past) (thread i address : ℕ) : Type 0 where
  pub image : ℕ
  pub is : image_of p i ≡ Some image
  pub loaded : is_loaded (module_of p image) ≡ true
  pub number : (module_of p image).instance ≡ i
  pub made : i ≤ MOST_INSTANCES
  pub small : (module_of p image).info.size ≤ 2 ^ 20
  pub at : At thread i (module_of p image).info.size address (distance_of images image (module_of p image))

lives : (images : JobImages) (p : Past) (thread i address : ℕ) → IsLeftBy images p → Covers thread images p i address
    → Lives images p thread i address
unfolding live block_length
lives images p thread i address l c = by_image (image_of p i) refl
  where
    f : Facts images p
    f = facts images p l

    by_image : (o : Option ℕ) → image_of p i ≡ o → Lives images p thread i address
    by_image None e = absurd (true≢false (sym c.is ∙ ap is_some e))
    by_image (Some a) e =
        let has = image_has p i a e in
        let start : start_of thread images p i ≡ block_place thread i (distance_of images a (module_of p a)) =
        start_some thread images p i a e in
        let long : block_length p i ≡ (module_of p a).info.size = rw e refl in
        let low : (module_of p a).instance ≤ p.made = (numbered_at p a f.is).instance has.1 in
        record {
          image = a;
          is = e;
          loaded = has.1;
          number = has.2;
          made = omega (arith, low, has.2, f.is.made);
          small = (info_of p a f.is).small;
          at = record { from = omega (arith, c.from, start); to = omega (arith, c.to, start, long) };
        }

below_at : (images : JobImages) (p : Past) (thread i address : ℕ) → IsLeftBy images p
    → (v : Lives images p thread i address) → (o : Option ℕ) → distance_of images v.image (module_of p v.image) ≡ o
    → At thread i (module_of p v.image).info.size address o → IsBelow thread address
below_at images p thread i address l v None e at =
    let from : thread * 2 ^ 40 + i * 2 ^ 24 ≤ address = at.from in
    let to : address < thread * 2 ^ 40 + i * 2 ^ 24 + (module_of p v.image).info.size = at.to in
    record { own = omega arith; below = omega (arith, v.made, v.small); off_stack = omega (arith, v.made, v.small) }
below_at images p thread i address l v (Some x) e at =
    let f = fixed images p v.image x l v.loaded e in
    let from : thread * 2 ^ 40 + 2 ^ 38 - x ≤ address = at.from in
    let to : address < thread * 2 ^ 40 + 2 ^ 38 - x + (module_of p v.image).info.size = at.to in
    record {
      own = omega (arith, f.near);
      below = omega (arith, f.near, f.fits);
      off_stack = omega (arith, f.near, f.fits);
    }

pub lie_below : (images : JobImages) (p : Past) → IsLeftBy images p → BlocksLieBelow images p
lie_below images p l thread a address c = let v = lives images p thread a address l c in
    below_at images p thread a address l v (distance_of images v.image (module_of p v.image)) refl v.at

pub threads_apart : (images : JobImages) (p q : Past) → IsLeftBy images p → IsLeftBy images q
    → ThreadsAreApart images p q
threads_apart images p q l m one two a b address ne c d =
    let x = lie_below images p l one a address c in
    let y = lie_below images q m two b address d in
    let x1 : one * 2 ^ 40 ≤ address = x.own in
    let x2 : address < one * 2 ^ 40 + 2 ^ 38 = x.below in
    let y1 : two * 2 ^ 40 ≤ address = y.own in
    let y2 : address < two * 2 ^ 40 + 2 ^ 38 = y.below in
    ne (omega arith)

apart_at : (images : JobImages) (p : Past) (thread i j address : ℕ) → IsLeftBy images p → i ≢ j
    → (v : Lives images p thread i address) → (w : Lives images p thread j address)
    → (o r : Option ℕ) → distance_of images v.image (module_of p v.image) ≡ o
    → distance_of images w.image (module_of p w.image) ≡ r
    → At thread i (module_of p v.image).info.size address o → At thread j (module_of p w.image).info.size address r → ⊥
apart_at images p thread i j address l ne v w None None e h s t =
    let a1 : thread * 2 ^ 40 + i * 2 ^ 24 ≤ address = s.from in
    let a2 : address < thread * 2 ^ 40 + i * 2 ^ 24 + (module_of p v.image).info.size = s.to in
    let b1 : thread * 2 ^ 40 + j * 2 ^ 24 ≤ address = t.from in
    let b2 : address < thread * 2 ^ 40 + j * 2 ^ 24 + (module_of p w.image).info.size = t.to in
    ne (omega (arith, v.small, w.small))
apart_at images p thread i j address l ne v w None (Some y) e h s t =
    let f = fixed images p w.image y l w.loaded h in
    let a2 : address < thread * 2 ^ 40 + i * 2 ^ 24 + (module_of p v.image).info.size = s.to in
    let b1 : thread * 2 ^ 40 + 2 ^ 38 - y ≤ address = t.from in
    absurd (omega (arith, v.small, v.made, f.near))
apart_at images p thread i j address l ne v w (Some x) None e h s t =
    let f = fixed images p v.image x l v.loaded e in
    let a1 : thread * 2 ^ 40 + 2 ^ 38 - x ≤ address = s.from in
    let b2 : address < thread * 2 ^ 40 + j * 2 ^ 24 + (module_of p w.image).info.size = t.to in
    absurd (omega (arith, w.small, w.made, f.near))
apart_at images p thread i j address l ne v w (Some x) (Some y) e h s t =
    let f = fixed images p v.image x l v.loaded e in
    let g = fixed images p w.image y l w.loaded h in
    let a1 : thread * 2 ^ 40 + 2 ^ 38 - x ≤ address = s.from in
    let a2 : address < thread * 2 ^ 40 + 2 ^ 38 - x + (module_of p v.image).info.size = s.to in
    let b1 : thread * 2 ^ 40 + 2 ^ 38 - y ≤ address = t.from in
    let b2 : address < thread * 2 ^ 40 + 2 ^ 38 - y + (module_of p w.image).info.size = t.to in
    fixed_apart images p v.image w.image x y (thread * 2 ^ 40 + 2 ^ 38 - address) l
    (λ same. ne (sym v.number ∙ ap (λ (k : ℕ). (module_of p k).instance) same ∙ w.number)) v.loaded w.loaded e h
    (omega (arith, f.near, f.fits)) (omega (arith, f.near, f.fits)) (omega (arith, g.near, g.fits))
    (omega (arith, g.near, g.fits))

pub blocks_apart : (images : JobImages) (p : Past) → IsLeftBy images p → BlocksAreApart images p
blocks_apart images p l thread a b address ne c d =
    let v = lives images p thread a address l c in
    let w = lives images p thread b address l d in
    apart_at images p thread a b address l ne v w (distance_of images v.image (module_of p v.image))
    (distance_of images w.image (module_of p w.image)) refl refl v.at w.at
