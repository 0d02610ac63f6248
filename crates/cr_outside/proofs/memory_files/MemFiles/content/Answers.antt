use Rattle.std.proofs.Common.{List, Option, ℕ, map, sym, ap, ◌∙◌}
use Rattle.std.specs.Option.{option_or}
use Rattle.cr_outside.specs.MemFiles.{event_of, files_of_pairs, named, put_last}
use Rattle.cr_outside.specs.Files.{content_of}
use Rattle.cr_outside.proofs.Names.{content_is_named, content_put_last}
use Rattle.cr_outside.proofs.memory_files.MemFiles.content.Goals as goal

pub returns-in-Some : goal.returns-in-Some
returns-in-Some c =
    let m = c.args.self.now in
    let first = content_of (files_of_pairs m.first.items) c.args.name.now in
    ap (λ (o : Option (List ℕ)). option_or o first) (c.in-Some.ensures ∙ ap (λ events. put_last (map event_of events) c.args.name.now) c.deref.ensures.value)
    ∙ sym (content_put_last (files_of_pairs m.first.items) (map event_of m.events.items) c.args.name.now)

pub returns-in-None : goal.returns-in-None
returns-in-None c =
    let m = c.args.self.now in
    let first = content_of (files_of_pairs m.first.items) c.args.name.now in
    c.find.ensures
    ∙ ap (λ pairs. named pairs c.args.name.now) c.deref-in-None.ensures.value
    ∙ sym (content_is_named m.first.items c.args.name.now)
    ∙ ap (λ (o : Option (List ℕ)). option_or o first) (c.in-None.ensures ∙ ap (λ events. put_last (map event_of events) c.args.name.now) c.deref.ensures.value)
    ∙ sym (content_put_last (files_of_pairs m.first.items) (map event_of m.events.items) c.args.name.now)
