use Rattle.std.proofs.Common.{◌≡◌, ◌∙◌, sym, ap, subst, ℕ, List, length}
use Rattle.hid_layout.specs.Controls.{items_of}
use Rattle.hid_snapshots.specs.declared.control_state.ControlState.{ControlState}
use Rattle.hid_snapshots.specs.Snapshots.{is_pressed, state_at}
use Rattle.hid_snapshots.specs.Keys.{keys_at, key_words, AreKeyWords}
use Rattle.hid_snapshots.proofs.KeyWordLemmas.{snapshot_words}
use Rattle.hid_snapshots.proofs.snapshot.Snapshot.key_words.Goals as goal

pub returns-clause-keys : goal.returns-clause-keys
returns-clause-keys c =
    let here : c.key_words.result.now ≡ key_words c.args.self.now c.args.item =
    c.key_words.ensures
    ∙ ap (λ (states : List ControlState). key_words states c.args.item) (c.deref.ensures.value ∙ c.self.view_is) in
    subst (λ (ws : List ℕ). AreKeyWords (length (keys_at c.args.layout.now c.args.item)) (is_pressed (state_at c.args.self.now c.args.item)) ws) (sym here)
    (snapshot_words (items_of c.args.layout.now) c.args.self.now c.args.item c.requires.fits c.requires.array)
