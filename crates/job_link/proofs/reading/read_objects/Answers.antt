use Rattle.std.proofs.Common.{◌≡◌, ◌∙◌, ◌+◌, ◌-◌, ◌<◌, ◌∷◌, ◌++◌, [], List, ℕ, get_or, length, take, drop, sym, ap}
use Rattle.std.proofs.Common.{subst}
use Rattle.std.proofs.Common.{arith}
use Rattle.std.specs.List.{All, Contains}
use Rattle.std.proofs.lemmas.List.{take_all}
use Rattle.std.proofs.lemmas.List.Elements.{All-append, All-set}
use Rattle.job_link.specs.Given.{Allows, Given, IsTaken}
use Rattle.job_link.specs.Mentions.{bytes_in, mentions_of}
use Rattle.job_link.specs.Reads.{IsReadIn}
use Rattle.job_link.specs.Walks.{names_in}
use Rattle.job_link.proofs.Filled.{all_given, read_more, refused_in}
use Rattle.job_link.proofs.Unseen.{mentions_are, names_around, names_more, numbers_more}
use Rattle.job_link.proofs.reading.read_objects.Goals as goal

pub returns-in-Err-clause-refused : goal.returns-in-Err-clause-refused
returns-in-Err-clause-refused g c =
    let job = c.args.job.now in
    let items = c.mentions-number-items.result.now in
    let i = c.loop-number.number-index in
    let image = c.image.result.now in
    let inside : i < length items = omega arith in
    let all : mentions_of job ≡ (names_in job (take i items) ++ image.objects) ++ names_in job (drop (i + 1) items) =
    mentions_are job ∙ ap (names_in job) (sym c.loop-number.invariant.items)
    ∙ names_around job items i image inside c.image.ensures in
    refused_in c.args.writable (bytes_in c.args.files.now) (mentions_of job) (names_in job (take i items)) image.objects
    (names_in job (drop (i + 1) items)) c.in-Err.refusal all
    c.loop-number.invariant.taken c.in-Err.ensures.refused

pub loop-number-preserved : goal.loop-number-preserved
loop-number-preserved g c =
    let job = c.args.job.now in
    let bytes = bytes_in c.args.files.now in
    let items = c.mentions-number-items.result.now in
    let i = c.loop-number.number-index in
    let number = get_or items i 0 in
    let image = c.image.result.now in
    let g = c.in-Ok.read in
    let inside : i < length items = omega arith in
    let some = c.mentions-number-items.ensures.numbers i 0 inside in
    let more = numbers_more job items i image inside c.image.ensures in
    let names = names_more job items i image inside c.image.ensures in
    let read = read_more bytes job (take i items) c.loop-number.images.items number image g
    c.loop-number.invariant.read some.0 c.image.ensures c.in-Ok.ensures.kind c.in-Ok.ensures.objects
    c.in-Ok.ensures.given in
    record {
      items = c.loop-number.invariant.items;
      read =
          subst (λ (ns : List ℕ). IsReadIn bytes job ns c.put.new.images.items) (sym more)
          (subst (λ (images : List Given). IsReadIn bytes job (take i items ++ number ∷ []) images) (sym c.put.ensures)
          read);
      allowed =
          subst (λ (images : List Given). All (λ (g : Given). All (Allows c.args.writable) g.objects) images)
          (sym c.put.ensures)
          (All-set (λ (g : Given). All (Allows c.args.writable) g.objects) c.loop-number.images.items (number - 1) g
          c.in-Ok.ensures.allowed c.loop-number.invariant.allowed);
      taken =
          subst (λ (ns : List (List ℕ)). All (λ name. IsTaken c.args.writable (bytes name)) ns) (sym names)
          (All-append (λ name. IsTaken c.args.writable (bytes name)) (names_in job (take i items)) image.objects
          c.loop-number.invariant.taken c.in-Ok.ensures.taken);
    }

pub returns-clause-read : goal.returns-clause-read
returns-clause-read g c =
    let items = c.mentions-number-items.result.now in
    let i = c.loop-number.number-index in
    let all : take i items ≡ items = take_all i items c.loop-number-test.false in
    all_given (bytes_in c.args.files.now) c.args.job.now (take i items) c.loop-number.images.items
    c.loop-number.invariant.read
    (λ k some few. subst (λ (ns : List ℕ). Contains ns k) (sym all) (c.mentions-number-items.ensures.every k some few))
