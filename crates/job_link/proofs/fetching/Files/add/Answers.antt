use Rattle.std.proofs.Common.{◌≡◌, ◌∙◌, ◌++◌, ◌∷◌, [], ap, rules, sym}
use Rattle.std.specs.Prelude.{if◌then◌else◌}
use Rattle.job_link.specs.Walks.{files_in, is_among, names_of}
use Rattle.job_link.proofs.Held.{kept_unseen, names_are, new_unseen, one_behind}
use Rattle.job_link.proofs.Unseen.{among}
use Rattle.job_link.proofs.fetching.Files.add.Goals as goal

pub returns-then-contains-clause-added : goal.returns-then-contains-clause-added
returns-then-contains-clause-added c =
    let keys = c.self.inside.names.keys in
    let name = c.args.name.now in
    let names = names_are keys c.self.inside.files.items c.self.invariant in
    kept_unseen c.args.self.now name c.args.bytes.now
    (ap (λ files. is_among (names_of files) name) (sym c.self.view_is) ∙ ap (λ ns. is_among ns name) names
    ∙ sym (among keys name) ∙ sym c.contains.ensures ∙ c.if-contains.true)

pub returns-clause-added : goal.returns-clause-added
returns-clause-added c =
    let keys = c.self.inside.names.keys in
    let files = c.self.inside.files.items in
    let name = c.args.name in
    let names = names_are keys files c.self.invariant in
    let new = sym c.contains.ensures ∙ c.if-contains.false in
    let last = c.in_ok-insert.ensures.keys ∙ ap (λ b. if b then keys else keys ++ name ∷ []) new in
    let more : c.push.new.self.items ≡ files ++ c.in_ok-file.file ∷ [] = search rules in
    ap (λ ks. files_in ks c.push.new.self.items) last
    ∙ ap (files_in (keys ++ name ∷ [])) more
    ∙ one_behind keys files name c.in_ok-file.file c.self.invariant
    ∙ ap (λ b. files_in keys files ++ (name.now, b) ∷ []) c.in_ok-file.ensures.items
    ∙ ap (λ all. all ++ (name.now, c.args.bytes.now) ∷ []) c.self.view_is
    ∙ new_unseen c.args.self.now name.now c.args.bytes.now
    (ap (λ fs. is_among (names_of fs) name.now) (sym c.self.view_is) ∙ ap (λ ns. is_among ns name.now) names
    ∙ sym (among keys name.now) ∙ new)
