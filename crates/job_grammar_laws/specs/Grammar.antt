-- The grammar of the lines of a job: relations between the bytes of a line and what it tells, a constructor for each
-- kind of line. It watches how a line is read (job_text: `Words`, `Grammar`, `LineFaults` and `LineEffects`). Here no
-- line is cut: a line is put together from words and spaces, what was told before is kept in the order of the text, and
-- images are known by their names alone.
use Rattle.std.specs.Prelude.{◌≡◌, ◌≢◌, ◌≤◌, ◌<◌, ◌+◌, ◌^◌, ◌==◌, ℕ, List, [], ◌∷◌, ◌++◌, codes, filter, length, map}
use Rattle.std.specs.Prelude.{Option, Some, None, unwrap_or}
use Rattle.std.specs.List.{All, AllZip, Contains}
use Rattle.job_text.specs.Threads.{IsThread}
use Rattle.job_text.specs.declared.images.Image.{Image}
use Rattle.job_text.specs.declared.thread_lines.Action.{Action}
use Rattle.job_text.specs.declared.thread_lines.Action.TheVariants as action
use Rattle.link_faults.specs.declared.image_kind.ImageKind.{ImageKind}
use Rattle.link_faults.specs.declared.image_kind.ImageKind.TheVariants.{Exe, Pie, Start, Late}
use Rattle.job_grammar_laws.specs.Images.{IsSpelled}
use Rattle.job_grammar_laws.specs.Numbers.{Writes}

-- ** words

-- a printed character other than the space
abbrev pub IsMark : ℕ → Type 0
IsMark byte = (33 ≤ byte) × (byte ≤ 126)

pub record IsWord (word : List ℕ) : Type 0 where
  pub some : 1 ≤ length word
  pub marks : All IsMark word

-- a line of these words, with spaces (byte 32) between them, before them and behind them
pub data Spaced : List ℕ → List (List ℕ) → Type 0 where
  End : Spaced [] []
  Space : (line : List ℕ) (words : List (List ℕ)) → Spaced line words → Spaced (32 ∷ line) words
  Last : (word : List ℕ) → IsWord word → Spaced word (word ∷ [])
  Word : (word line : List ℕ) (words : List (List ℕ)) → IsWord word → Spaced line words
      → Spaced (word ++ 32 ∷ line) (word ∷ words)

-- ** what lines tell

-- a line of a thread: the thread, the name of the image, and what is done to it
pub record Asked : Type 0 where
  pub thread : ℕ
  pub image : List ℕ
  pub action : Action

-- the images and the lines of threads, both in the order of the text; and the numbers of the other lines
pub record Told : Type 0 where
  pub images : List Image
  pub threads : Option ℕ
  pub fuel : Option ℕ
  pub order : Option (List ℕ)
  pub asked : List Asked

abbrev pub nothing_told : Told
nothing_told = record { images = []; threads = None; fuel = None; order = None; asked = [] }

-- without a line `threads` there is one
abbrev pub thread_count : Told → ℕ
thread_count told = unwrap_or told.threads 1

abbrev pub names : List Image → List (List ℕ)
names images = map (λ image. image.name) images

-- the groups: a program, modules that start with it, late ones
abbrev pub group : ImageKind → ℕ
group Exe = 0
group Pie = 0
group Start = 1
group Late = 2

-- the images of a group, in the order of the text
abbrev pub of_group : ℕ → List Image → List Image
of_group n images = filter (λ image. group image.kind == n) images

-- ** lines

-- the word for a kind of image
abbrev pub kind_word : ImageKind → List ℕ
kind_word Exe = codes "exe"
kind_word Pie = codes "pie"
kind_word Start = codes "start"
kind_word Late = codes "late"

-- there is room for one image more, its name is new, and a program is the only one
pub record MayJoin (images : List Image) (image : Image) : Type 0 where
  pub room : length images < 64
  pub new : All (λ name. name ≢ image.name) (names images)
  pub one_program : group image.kind ≡ 0 → All (λ other. group other.kind ≢ 0) images

-- a line that begins with this word may ask this: an earlier line tells of the image, and there is such a thread so far
pub record MayAsk (told : Told) (word : List ℕ) (asked : Asked) : Type 0 where
  pub written : Writes word asked.thread
  pub thread : IsThread (thread_count told) asked.thread
  pub image : Contains (names told.images) asked.image

-- what the words of a line tell, after what was told before
pub data Tells (told : Told) (words : List (List ℕ)) : Told → Type 0 where
  -- image NAME KIND OBJ..
  OfImage : (image : Image) → words ≡ codes "image" ∷ image.name ∷ kind_word image.kind ∷ image.objects
      → IsSpelled image → MayJoin told.images image
      → Tells told words (record told { images = told.images ++ image ∷ [] })
  -- threads N
  OfThreads : (word : List ℕ) (n : ℕ) → words ≡ codes "threads" ∷ word ∷ [] → Writes word n → 1 ≤ n → n ≤ 64
      → told.threads ≡ None → Tells told words (record told { threads = Some n })
  -- fuel N
  OfFuel : (word : List ℕ) (n : ℕ) → words ≡ codes "fuel" ∷ word ∷ [] → Writes word n → 1 ≤ n → n < 2 ^ 32
      → told.fuel ≡ None → Tells told words (record told { fuel = Some n })
  -- order T T ..
  OfOrder : (written : List (List ℕ)) (threads : List ℕ) → words ≡ codes "order" ∷ written → 1 ≤ length threads
      → AllZip Writes written threads → All (IsThread (thread_count told)) threads
      → told.order ≡ None → Tells told words (record told { order = Some threads })
  -- T call IMAGE SYM A B C
  OfCall : (asked : Asked) (word symbol first second third : List ℕ) (a b c : ℕ)
      → words ≡ word ∷ codes "call" ∷ asked.image ∷ symbol ∷ first ∷ second ∷ third ∷ []
      → asked.action ≡ action.Call symbol a b c → MayAsk told word asked
      → length symbol ≤ 255 → Writes first a → Writes second b → Writes third c
      → Tells told words (record told { asked = told.asked ++ asked ∷ [] })
  -- T open IMAGE
  OfOpen : (asked : Asked) (word : List ℕ) → words ≡ word ∷ codes "open" ∷ asked.image ∷ []
      → asked.action ≡ action.Open → MayAsk told word asked
      → Tells told words (record told { asked = told.asked ++ asked ∷ [] })
  -- T close IMAGE
  OfClose : (asked : Asked) (word : List ℕ) → words ≡ word ∷ codes "close" ∷ asked.image ∷ []
      → asked.action ≡ action.Close → MayAsk told word asked
      → Tells told words (record told { asked = told.asked ++ asked ∷ [] })
  -- T peek IMAGE SYM LEN
  OfPeek : (asked : Asked) (word symbol written : List ℕ) (n : ℕ)
      → words ≡ word ∷ codes "peek" ∷ asked.image ∷ symbol ∷ written ∷ []
      → asked.action ≡ action.Peek symbol n → MayAsk told word asked
      → length symbol ≤ 255 → Writes written n → n ≤ 4096
      → Tells told words (record told { asked = told.asked ++ asked ∷ [] })

-- what a line of this number tells; a comment tells nothing, nor does a line without a word
pub data Says (number : ℕ) (told : Told) (line : List ℕ) : Told → Type 0 where
  Comment : (rest : List ℕ) → line ≡ codes "#" ++ rest → Says number told line told
  Blank : All (λ byte. byte ≡ 32) line → Says number told line told
  Line : (words : List (List ℕ)) (after : Told) → Spaced line words → number ≤ 65536 → Tells told words after
      → Says number told line after

-- what lines tell, the first of which has this number; a line feed (byte 10) stands between two lines
pub data Text : ℕ → Told → List ℕ → Told → Type 0 where
  LastLine : (number : ℕ) (told : Told) (line : List ℕ) (after : Told) → All (λ byte. byte ≢ 10) line
      → Says number told line after → Text number told line after
  NextLine : (number : ℕ) (told : Told) (line : List ℕ) (between : Told) (rest : List ℕ) (after : Told)
      → All (λ byte. byte ≢ 10) line → Says number told line between → Text (number + 1) between rest after
      → Text number told (line ++ 10 ∷ rest) after
