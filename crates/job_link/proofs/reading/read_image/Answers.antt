use Rattle.std.proofs.Common.{◌≡◌, ◌∙◌, ◌∷◌, ◌++◌, [], List, ℕ, get_or, length, map, take, rules, sym, ap, subst, arith}
use Rattle.std.specs.List.{All}
use Rattle.std.proofs.lemmas.List.{length_push, map-append, take_more}
use Rattle.std.proofs.lemmas.List.Elements.{All-push}
use Rattle.sequence_match.specs.Faults.{AreSites}
use Rattle.job_link.specs.Given.{Allows, IsSoundObject, IsTaken}
use Rattle.job_link.specs.Mentions.{bytes_in}
use Rattle.job_link.specs.Reads.{IsReading}
use Rattle.job_link.proofs.Filled.{allowed_of, refused_at}
use Rattle.ports.proofs.Yielded.{as_many, given_count, next_of}
use Rattle.job_link.proofs.reading.read_image.Goals as goal

pub push-requires-clause-sound : goal.push-requires-clause-sound
push-requires-clause-sound g c =
    let bytes = bytes_in c.args.files.now in
    let read = next_of (IsReading c.args.writable bytes) c.args.image.now.objects c.into_iter-reading-iterator.result c.loop-reading.reading-iterator
    c.next.new.self c.loop-reading.yielded c.in-Some.reading []
    (search rules) c.loop-reading.yielded_by c.in-Some.ensures.steps.0 in
    let its = subst (IsReading c.args.writable bytes
    (get_or c.args.image.now.objects (length c.loop-reading.yielded) [])) c.in-Ok.is read.1 in
    subst (λ (b : List ℕ). IsSoundObject b) (sym its.0) its.2.sound

pub push-requires-clause-sites : goal.push-requires-clause-sites
push-requires-clause-sites g c =
    let bytes = bytes_in c.args.files.now in
    let read = next_of (IsReading c.args.writable bytes) c.args.image.now.objects c.into_iter-reading-iterator.result c.loop-reading.reading-iterator
    c.next.new.self c.loop-reading.yielded c.in-Some.reading []
    (search rules) c.loop-reading.yielded_by c.in-Some.ensures.steps.0 in
    let its = subst (IsReading c.args.writable bytes
    (get_or c.args.image.now.objects (length c.loop-reading.yielded) [])) c.in-Ok.is read.1 in
    subst (λ (b : List ℕ). AreSites b c.in-Ok.object.sites.items) (sym its.0) its.1

pub loop-reading-preserved : goal.loop-reading-preserved
loop-reading-preserved g c =
    let bytes = bytes_in c.args.files.now in
    let names = c.args.image.now.objects in
    let i = length c.loop-reading.yielded in
    let name = get_or names i [] in
    let read = next_of (IsReading c.args.writable bytes) names c.into_iter-reading-iterator.result c.loop-reading.reading-iterator
    c.next.new.self c.loop-reading.yielded c.in-Some.reading []
    (search rules) c.loop-reading.yielded_by c.in-Some.ensures.steps.0 in
    let its = subst (IsReading c.args.writable bytes name) c.in-Ok.is read.1 in
    let more : take (length (c.loop-reading.yielded ++ c.in-Some.reading ∷ [])) names ≡ take i names ++ name ∷ [] =
    ap (λ n. take n names) (length_push c.loop-reading.yielded c.in-Some.reading) ∙ take_more names i [] read.0 in
    record {
      kind = c.push.ensures.kind ∙ c.loop-reading.invariant.kind;
      objects =
          c.in_ok-push-in-Ok.ensures.objects
          ∙ ap (λ (os : List (List ℕ)). os ++ c.in-Ok.object.object ∷ []) c.loop-reading.invariant.objects
          ∙ ap (λ (b : List ℕ). map bytes (take i names) ++ b ∷ []) its.0
          ∙ sym (map-append bytes (take i names) (name ∷ [])) ∙ ap (map bytes) (sym more);
      given = c.push.ensures.given;
      taken =
          subst (λ (ns : List (List ℕ)). All (λ name. IsTaken c.args.writable (bytes name)) ns) (sym more)
          (All-push (λ name. IsTaken c.args.writable (bytes name)) (take i names) name c.loop-reading.invariant.taken
          its.2);
    }

pub returns-in-Err-clause-refused : goal.returns-in-Err-clause-refused
returns-in-Err-clause-refused g c =
    let bytes = bytes_in c.args.files.now in
    let names = c.args.image.now.objects in
    let i = length c.loop-reading.yielded in
    let read = next_of (IsReading c.args.writable bytes) names c.into_iter-reading-iterator.result c.loop-reading.reading-iterator
    c.next.new.self c.loop-reading.yielded c.in-Some.reading []
    (search rules) c.loop-reading.yielded_by c.in-Some.ensures.steps.0 in
    refused_at c.args.writable bytes names i c.in-Err.refusal read.0 c.loop-reading.invariant.taken
    (subst (IsReading c.args.writable bytes (get_or names i [])) c.in-Err.is read.1)

pub returns-clause-objects : goal.returns-clause-objects
returns-clause-objects g c =
    let all : length c.loop-reading.yielded ≡ length c.in_ok-readings.readings.items =
    omega (
      arith,
      given_count c.loop-reading.yielded c.into_iter-reading-iterator.result c.loop-reading.reading-iterator c.loop-reading.yielded_by,
      c.into_iter-reading-iterator.ensures.into_iter_gives.1,
      c.in-None.ensures.steps.0,
      c.in_ok-readings.readings.ok,
    ) in
    c.loop-reading.invariant.objects
    ∙ ap (map (bytes_in c.args.files.now))
    (as_many (IsReading c.args.writable (bytes_in c.args.files.now)) c.args.image.now.objects
    c.in_ok-readings.readings.items c.loop-reading.yielded (search rules) all)

pub returns-clause-taken : goal.returns-clause-taken
returns-clause-taken g c =
    let all : length c.loop-reading.yielded ≡ length c.in_ok-readings.readings.items =
    omega (
      arith,
      given_count c.loop-reading.yielded c.into_iter-reading-iterator.result c.loop-reading.reading-iterator c.loop-reading.yielded_by,
      c.into_iter-reading-iterator.ensures.into_iter_gives.1,
      c.in-None.ensures.steps.0,
      c.in_ok-readings.readings.ok,
    ) in
    subst (λ (ns : List (List ℕ)). All (λ name. IsTaken c.args.writable (bytes_in c.args.files.now name)) ns)
    (as_many (IsReading c.args.writable
    (bytes_in c.args.files.now)) c.args.image.now.objects c.in_ok-readings.readings.items
    c.loop-reading.yielded (search rules) all) c.loop-reading.invariant.taken

pub returns-clause-allowed : goal.returns-clause-allowed
returns-clause-allowed g c =
    subst (All (Allows c.args.writable)) (sym (returns-clause-objects g c))
    (allowed_of c.args.writable (bytes_in c.args.files.now) c.args.image.now.objects (returns-clause-taken g c))
