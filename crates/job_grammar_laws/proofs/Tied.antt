-- What lines tell in the grammar's words, and in the reader's; each kind of line keeps the two tied.
use Rattle.std.proofs.Common.{◌≡◌, ◌≢◌, ◌∙◌, ℕ, zero, suc, ◌+◌, ◌-◌, ◌<◌, ◌≤◌, Bool, true, false, ◌==◌, cond}
use Rattle.std.proofs.Common.{List, [], ◌∷◌, ◌++◌, length, get_or, replicate, slice_set, Option, Some}
use Rattle.std.proofs.Common.{None}
use Rattle.std.proofs.Common.{is_some, option_to_list, unwrap_or, refl, sym, ap, subst, arith, append-nil}
use Rattle.std.proofs.Common.{length-append}
use Rattle.std.proofs.Common.{eqb-true, eq-eqb, ne_eqb, length-set, subst₂}
use Rattle.std.proofs.lemmas.Bool.{eqb-false, false≢true}
use Rattle.std.proofs.lemmas.List.{get_or-set_other, get_or-set_same, map-append}
use Rattle.std.proofs.lemmas.List.Elements.{All-filter, All-head, All-tail}
use Rattle.std.proofs.lemmas.List.Elements.{filter-append}
use Rattle.std.proofs.lemmas.Slice.Eq.{bytes_eq-Decides}
use Rattle.std.specs.List.{All, AllZip, position_from}
use Rattle.std.specs.Str.{bytes_eq}
use Rattle.job_text.specs.Drafts.{Declared, image_count, nothing_declared, program_slot, slot_among, slot_of}
use Rattle.job_text.specs.Images.{is_named}
use Rattle.job_text.specs.LineEffects.{with_image, with_line}
use Rattle.job_text.proofs.DraftLemmas.{late_by, program_by, start_by}
use Rattle.job_text.specs.declared.images.Image.{Image}
use Rattle.link_faults.specs.declared.image_kind.ImageKind.{ImageKind}
use Rattle.link_faults.specs.declared.image_kind.ImageKind.TheVariants.{Exe, Pie, Start, Late}
use Rattle.job_grammar_laws.specs.Derived.{of_thread}
use Rattle.job_grammar_laws.specs.Grammar.{Asked, Told, group, names, nothing_told, of_group, thread_count}
use Rattle.job_grammar_laws.proofs.Apart.{counted}
use Rattle.job_grammar_laws.proofs.Pairs.{All-of_map, AllZip-all, AllZip-more, AllZip-weaker, nothing_behind}
use Rattle.job_grammar_laws.proofs.Pairs.{nothing_more}

pub record Tied (told : Told) (d : Declared) : Type 0 where
  pub program : option_to_list d.program ≡ of_group 0 told.images
  pub starts : d.starts ≡ of_group 1 told.images
  pub lates : d.lates ≡ of_group 2 told.images
  pub count : image_count d ≡ length told.images
  pub few : length told.images ≤ 64
  pub mentions : AllZip (λ slot name. slot_of d name ≡ Some slot) d.mentions (names told.images)
  pub has_threads : d.has_threads ≡ is_some told.threads
  pub threads : length d.lines ≡ thread_count told
  pub fuel : d.fuel ≡ told.fuel
  pub order : d.order ≡ told.order
  pub lines : (i : ℕ) → AllZip (λ plan asked. (slot_of d asked.image ≡ Some plan.slot) × (plan.action ≡ asked.action))
      (get_or d.lines i []) (of_thread (i + 1) told.asked)

-- ** names

unslotted : (program : Option Image) (starts lates : List Image) (name : List ℕ) → program_slot name program ≡ None
    → position_from (is_named name) 0 starts ≡ None → position_from (is_named name) 0 lates ≡ None
    → slot_among program starts lates name ≡ None
unfolding slot_among
unslotted program starts lates name p s l = rw (p, s, l) refl

abbrev Unlike : List ℕ → Image → Type 0
Unlike name image = image.name ≢ name

unnamed : (name : List ℕ) (image : Image) → Unlike name image → is_named name image ≡ false
unnamed name image unlike = by (is_named name image) refl
  where
    by : (is : Bool) → is_named name image ≡ is → is ≡ false
    by true e = absurd (unlike (sym ((bytes_eq-Decides name image.name).0 e)))
    by false e = refl

unplaced : (name : List ℕ) (i : ℕ) (images : List Image) → All (Unlike name) images
    → position_from (is_named name) i images ≡ None
unplaced name i [] are = refl
unplaced name i (x ∷ xs) are =
    ap (λ b. cond b (Some i) (position_from (is_named name) (i + 1) xs))
    (unnamed name x (All-head (Unlike name) x xs are))
    ∙ unplaced name (i + 1) xs (All-tail (Unlike name) x xs are)

none_where : {S : Type 0} (b : Bool) (x : S) → b ≡ false → cond b (Some x) None ≡ None
none_where b x is = ap (λ t. cond t (Some x) None) is

no_program : (name : List ℕ) (program : Option Image) → All (Unlike name) (option_to_list program)
    → program_slot name program ≡ None
no_program name None are = refl
no_program name (Some image) are =
    none_where (is_named name image) _ (unnamed name image (All-head (Unlike name) image [] are))

-- a name that no line tells has no slot
pub new_slotless : (told : Told) (d : Declared) (name : List ℕ) → Tied told d
    → All (λ other. other ≢ name) (names told.images) → slot_of d name ≡ None
new_slotless told d name tied new =
    let all : All (Unlike name) told.images = All-of_map (λ other. other ≢ name)
    (λ image. image.name) told.images new in
    unslotted d.program d.starts d.lates name
    (no_program name d.program (subst (All (Unlike name)) (sym tied.program)
    (All-filter (λ image. group image.kind == 0) (Unlike name) told.images all)))
    (unplaced name 0 d.starts (subst (All (Unlike name)) (sym tied.starts)
    (All-filter (λ image. group image.kind == 1) (Unlike name) told.images all)))
    (unplaced name 0 d.lates (subst (All (Unlike name)) (sym tied.lates)
    (All-filter (λ image. group image.kind == 2) (Unlike name) told.images all)))

-- and a name without a slot is new
pub slotless_new : (told : Told) (d : Declared) (name : List ℕ) → Tied told d → slot_of d name ≡ None
    → All (λ other. other ≢ name) (names told.images)
slotless_new told d name tied none =
    AllZip-all (λ slot other. slot_of d other ≡ Some slot) (λ other. other ≢ name)
    (λ slot other is same. cc) d.mentions (names told.images) tied.mentions

-- ** an image joins

-- the slots that are there stay
abbrev Grows : Declared → Declared → Type 0
Grows d new = (q : List ℕ) → is_some (slot_of d q) ≡ true → slot_of new q ≡ slot_of d q

keeps : (name : List ℕ) (d : Declared) (q : List ℕ) → slot_of d name ≡ None → is_some (slot_of d q) ≡ true
    → bytes_eq name q ≡ false
keeps name d q none some = by (bytes_eq name q) refl
  where
    by : (is : Bool) → bytes_eq name q ≡ is → is ≡ false
    by true e =
        let same : name ≡ q = (bytes_eq-Decides name q).0 e in
        absurd (false≢true (sym (ap is_some none) ∙ ap (λ n. is_some (slot_of d n)) same ∙ some))
    by false e = refl

-- what is asked so far stands for the same slots
lines_grown : (told : Told) (d new : Declared) → Tied told d → Grows d new → (i : ℕ) → new.lines ≡ d.lines
    → AllZip (λ plan asked. (slot_of new asked.image ≡ Some plan.slot) × (plan.action ≡ asked.action))
    (get_or new.lines i []) (of_thread (i + 1) told.asked)
lines_grown told d new tied grows i same =
    subst (λ plans. AllZip (λ plan asked. (slot_of new asked.image ≡ Some plan.slot) × (plan.action ≡ asked.action))
    (get_or plans i []) (of_thread (i + 1) told.asked)) (sym same)
    (AllZip-weaker (λ plan asked. (slot_of d asked.image ≡ Some plan.slot) × (plan.action ≡ asked.action))
    (λ plan asked. (slot_of new asked.image ≡ Some plan.slot) × (plan.action ≡ asked.action))
    (λ plan asked is. (grows asked.image (ap is_some is.0) ∙ is.0, is.1))
    (get_or d.lines i []) (of_thread (i + 1) told.asked) (tied.lines i))

in_group : (n : ℕ) (images : List Image) (one : Image) → (group one.kind == n) ≡ true
    → of_group n (images ++ one ∷ []) ≡ of_group n images ++ one ∷ []
in_group n images one is =
    filter-append (λ image. group image.kind == n) images (one ∷ [])
    ∙ ap (λ t. of_group n images ++ cond t (one ∷ []) []) is

not_in_group : (n : ℕ) (images : List Image) (one : Image) → (group one.kind == n) ≡ false
    → of_group n (images ++ one ∷ []) ≡ of_group n images
not_in_group n images one is =
    filter-append (λ image. group image.kind == n) images (one ∷ [])
    ∙ ap (λ t. of_group n images ++ cond t (one ∷ []) []) is
    ∙ append-nil (of_group n images)

-- an image joins its group, and nothing else changes
image_joins : (told : Told) (d new : Declared) (one : Image) (slot : _) → Tied told d → length told.images < 64
    → Grows d new
    → slot_of new one.name ≡ Some slot → new.mentions ≡ d.mentions ++ slot ∷ []
    → option_to_list new.program ≡ of_group 0 (told.images ++ one ∷ [])
    → new.starts ≡ of_group 1 (told.images ++ one ∷ []) → new.lates ≡ of_group 2 (told.images ++ one ∷ [])
    → image_count new ≡ image_count d + 1 → new.has_threads ≡ d.has_threads → new.fuel ≡ d.fuel
    → new.order ≡ d.order → new.lines ≡ d.lines
    → Tied (record told { images = told.images ++ one ∷ [] }) new
image_joins told d new one slot tied room grows stands mentioned p s l more h f o same = record {
  program = p;
  starts = s;
  lates = l;
  count = omega (arith, more, tied.count, length-append told.images (one ∷ []));
  few = omega (arith, room, length-append told.images (one ∷ []));
  mentions = subst₂ (λ slots told. AllZip (λ slot name. slot_of new name ≡ Some slot) slots told) (sym mentioned)
      (sym (map-append (λ (image : Image). image.name) told.images (one ∷ [])))
      (AllZip-more (λ slot name. slot_of new name ≡ Some slot) d.mentions (names told.images) slot one.name
      (AllZip-weaker (λ slot name. slot_of d name ≡ Some slot) (λ slot name. slot_of new name ≡ Some slot)
      (λ slot name is. grows name (ap is_some is) ∙ is) d.mentions (names told.images) tied.mentions) stands);
  has_threads = h ∙ tied.has_threads;
  threads = ap length same ∙ tied.threads;
  fuel = f ∙ tied.fuel;
  order = o ∙ tied.order;
  lines = λ i. lines_grown told d new tied grows i same;
}

self : (name : List ℕ) → bytes_eq name name ≡ true
self name = (bytes_eq-Decides name name).1 refl

module _ (told : Told) (d : Declared) (one : Image) (tied : Tied told d) (room : length told.images < 64)
    (none : slot_of d one.name ≡ None) where
  program_joins : group one.kind ≡ 0 → d.program ≡ None
      → Tied (record told { images = told.images ++ one ∷ [] }) (with_image one Exe d)
  program_joins first no_other =
      image_joins told d (with_image one Exe d) one _ tied room
      (λ q some. program_by false d.starts d.lates one.name q one refl (keeps one.name d q none some)
      ∙ ap (λ p. slot_among p d.starts d.lates q) (sym no_other))
      (program_by true d.starts d.lates one.name one.name one refl (self one.name)) refl
      (sym (in_group 0 told.images one (eq-eqb (group one.kind) 0 first)
      ∙ ap (λ xs. xs ++ one ∷ []) (sym tied.program ∙ ap option_to_list no_other)))
      (tied.starts ∙ sym (not_in_group 1 told.images one (ne_eqb (group one.kind) 1 (λ e. omega (arith, first)))))
      (tied.lates ∙ sym (not_in_group 2 told.images one (ne_eqb (group one.kind) 2 (λ e. omega (arith, first)))))
      (counted Exe one d (ap is_some no_other)) refl refl refl refl

  start_joins : group one.kind ≡ 1
      → Tied (record told { images = told.images ++ one ∷ [] }) (with_image one Start d)
  start_joins second =
      image_joins told d (with_image one Start d) one _ tied room
      (λ q some. start_by false d.program d.starts d.lates one.name q one refl none (keeps one.name d q none some))
      (start_by true d.program d.starts d.lates one.name one.name one refl none (self one.name)) refl
      (tied.program ∙ sym (not_in_group 0 told.images one (ne_eqb (group one.kind) 0 (λ e. omega (arith, second)))))
      (ap (λ xs. xs ++ one ∷ []) tied.starts
      ∙ sym (in_group 1 told.images one (eq-eqb (group one.kind) 1 second)))
      (tied.lates ∙ sym (not_in_group 2 told.images one (ne_eqb (group one.kind) 2 (λ e. omega (arith, second)))))
      (counted Start one d refl) refl refl refl refl

  late_joins : group one.kind ≡ 2
      → Tied (record told { images = told.images ++ one ∷ [] }) (with_image one Late d)
  late_joins third =
      image_joins told d (with_image one Late d) one _ tied room
      (λ q some. late_by false d.program d.starts d.lates one.name q one refl none (keeps one.name d q none some))
      (late_by true d.program d.starts d.lates one.name one.name one refl none (self one.name)) refl
      (tied.program ∙ sym (not_in_group 0 told.images one (ne_eqb (group one.kind) 0 (λ e. omega (arith, third)))))
      (tied.starts ∙ sym (not_in_group 1 told.images one (ne_eqb (group one.kind) 1 (λ e. omega (arith, third)))))
      (ap (λ xs. xs ++ one ∷ []) tied.lates
      ∙ sym (in_group 2 told.images one (eq-eqb (group one.kind) 2 third)))
      (counted Late one d refl) refl refl refl refl

  pub joins : (k : ImageKind) → one.kind ≡ k → (group k ≡ 0 → d.program ≡ None)
      → Tied (record told { images = told.images ++ one ∷ [] }) (with_image one k d)
  joins Exe is only = program_joins (ap group is) (only refl)
  joins Pie is only = program_joins (ap group is) (only refl)
  joins Start is only = start_joins (ap group is)
  joins Late is only = late_joins (ap group is)

-- ** other lines

pub threads_tied : (told : Told) (d : Declared) (n v : ℕ) → Tied told d → told.threads ≡ None → 1 ≤ n → v ≡ n
    → Tied (record told { threads = Some n })
    (record d { has_threads = true; lines = d.lines ++ replicate (v - 1) [] })
threads_tied told d n v tied none some same = record {
  program = tied.program;
  starts = tied.starts;
  lates = tied.lates;
  count = tied.count;
  few = tied.few;
  mentions = tied.mentions;
  has_threads = refl;
  threads =
      let one : length d.lines ≡ 1 = tied.threads ∙ ap (λ t. unwrap_or t 1) none in
      omega (arith, one, same, some, nothing_more d.lines (v - 1));
  fuel = tied.fuel;
  order = tied.order;
  lines = λ i. subst (λ plans. AllZip (λ plan asked. (slot_of d asked.image ≡ Some plan.slot)
      × (plan.action ≡ asked.action))
      plans (of_thread (i + 1) told.asked)) (sym (nothing_behind d.lines (v - 1) i)) (tied.lines i);
}

pub fuel_tied : (told : Told) (d : Declared) (n : ℕ) (written : Option ℕ) → Tied told d → written ≡ Some n
    → Tied (record told { fuel = Some n }) (record d { fuel = written })
fuel_tied told d n written tied is = record {
  program = tied.program;
  starts = tied.starts;
  lates = tied.lates;
  count = tied.count;
  few = tied.few;
  mentions = tied.mentions;
  has_threads = tied.has_threads;
  threads = tied.threads;
  fuel = is;
  order = tied.order;
  lines = tied.lines;
}

pub order_tied : (told : Told) (d : Declared) (threads written : List ℕ) → Tied told d → written ≡ threads
    → Tied (record told { order = Some threads }) (record d { order = Some written })
order_tied told d threads written tied is = record {
  program = tied.program;
  starts = tied.starts;
  lates = tied.lates;
  count = tied.count;
  few = tied.few;
  mentions = tied.mentions;
  has_threads = tied.has_threads;
  threads = tied.threads;
  fuel = tied.fuel;
  order = ap Some is;
  lines = tied.lines;
}

of_thread_more : (thread : ℕ) (all : List Asked) (asked : Asked) (is : Bool) → (asked.thread == thread) ≡ is
    → of_thread thread (all ++ asked ∷ []) ≡ of_thread thread all ++ cond is (asked ∷ []) []
of_thread_more thread all asked is e =
    filter-append (λ line. line.thread == thread) all (asked ∷ [])
    ∙ ap (λ t. of_thread thread all ++ cond t (asked ∷ []) []) e

-- a line of a thread joins those of the thread
pub asked_tied : (told : Told) (d : Declared) (asked : Asked) (plan : _) (v : ℕ) (new : Declared)
    → new ≡ with_line v plan d → Tied told d → v ≡ asked.thread → 1 ≤ asked.thread → asked.thread ≤ length d.lines
    → slot_of d asked.image ≡ Some plan.slot → plan.action ≡ asked.action
    → Tied (record told { asked = told.asked ++ asked ∷ [] }) new
asked_tied told d asked plan v new is tied same some few stands does =
    subst (Tied (record told { asked = told.asked ++ asked ∷ [] })) (sym is) (record {
      program = tied.program;
      starts = tied.starts;
      lates = tied.lates;
      count = tied.count;
      few = tied.few;
      mentions = tied.mentions;
      has_threads = tied.has_threads;
      threads = length-set d.lines (v - 1) _ ∙ tied.threads;
      fuel = tied.fuel;
      order = tied.order;
      lines = λ i. by i (asked.thread == i + 1) refl;
    })
  where
    by : (i : ℕ) (is : Bool) → (asked.thread == i + 1) ≡ is
        → AllZip (λ plan asked. (slot_of d asked.image ≡ Some plan.slot) × (plan.action ≡ asked.action))
        (get_or (with_line v plan d).lines i []) (of_thread (i + 1) (told.asked ++ asked ∷ []))
    by i true e =
        let at : v - 1 ≡ i = omega (arith, same, eqb-true asked.thread (i + 1) e) in
        let inside : i < length d.lines = omega (arith, at, same, some, few) in
        subst₂ (λ plans asks. AllZip (λ plan asked. (slot_of d asked.image ≡ Some plan.slot)
        × (plan.action ≡ asked.action))
        plans asks)
        (sym (ap (λ k. get_or (slice_set d.lines k (get_or d.lines k [] ++ plan ∷ [])) i []) at
        ∙ get_or-set_same d.lines i (get_or d.lines i [] ++ plan ∷ []) [] inside))
        (sym (of_thread_more (i + 1) told.asked asked true e))
        (AllZip-more (λ plan asked. (slot_of d asked.image ≡ Some plan.slot) × (plan.action ≡ asked.action))
        (get_or d.lines i []) (of_thread (i + 1) told.asked) plan asked (tied.lines i) (stands, does))
    by i false e =
        subst₂ (λ plans asks. AllZip (λ plan asked. (slot_of d asked.image ≡ Some plan.slot)
        × (plan.action ≡ asked.action))
        plans asks)
        (sym (get_or-set_other d.lines (v - 1) i (get_or d.lines (v - 1) [] ++ plan ∷ []) []
        (λ same_place. omega (arith, same, some, same_place, eqb-false asked.thread (i + 1) e))))
        (sym (of_thread_more (i + 1) told.asked asked false e ∙ append-nil (of_thread (i + 1) told.asked)))
        (tied.lines i)

-- before the first line
pub nothing_tied : Tied nothing_told nothing_declared
nothing_tied = record {
  program = refl;
  starts = refl;
  lates = refl;
  count = refl;
  few = omega arith;
  mentions = tt;
  has_threads = refl;
  threads = refl;
  fuel = refl;
  order = refl;
  lines = none;
}
  where
    none : (i : ℕ) → AllZip (λ plan asked. (slot_of nothing_declared asked.image ≡ Some plan.slot)
        × (plan.action ≡ asked.action)) (get_or nothing_declared.lines i []) (of_thread (i + 1) [])
    none zero = tt
    none (suc i) = tt
