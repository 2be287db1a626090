-- A generated deployment is sound.
use Rattle.std.proofs.Common.{◌≡◌, ℕ, zero, suc, ◌<◌, ◌≤◌, ◌+◌, ◌*◌, ◌%◌, ◌^◌, Bool, true, false, cond, List, [], ◌∷◌, ◌++◌, length, refl, codes, arith}
use Rattle.std.specs.Prelude.{◌==◌, nat_le}
use Rattle.std.specs.Fmt.{decimal}
use Rattle.std.specs.List.{list_all, AllByRecursion}
use Rattle.std.proofs.lemmas.Bool.{and_parts, and_from}
use Rattle.std.proofs.lemmas.List.{length-append}
use Rattle.std.proofs.lemmas.Nat.{mod_below}
use Rattle.fk_print.specs.Words.{client, is_plain}
use Rattle.fk_script.specs.Generate.{draw, generated, generated_command, generated_commands, generated_turn, generated_turns, node_path, state_after}
use Rattle.fk_script.specs.Lines.{Word, is}
use Rattle.fk_script.specs.declared.command.Command.{Command}
use Rattle.fk_script.specs.declared.deployment.Turn.{Turn}
use Rattle.fk_script.proofs.CleanWords.{plain_word}
use Rattle.fk_script.proofs.CodedData.{decoded_back, empty_cons}
use Rattle.fk_script.proofs.Numerals.{number_plain, number_word}
use Rattle.fk_script.proofs.TextWords.{utf8_bytes}
use Rattle.fk_script.proofs.Sound.{IsPath, IsData, IsCommand, IsSession, IsTurn, IsSound, commands_weight}
use Rattle.fk_script.proofs.SoundCommands.{IsLone, choose}

all_append : (xs ys : List ℕ) → list_all is_plain xs ≡ true → list_all is_plain ys ≡ true → list_all is_plain (xs ++ ys) ≡ true
all_append [] ys g h = h
all_append (x ∷ xs) ys g h =
    let both = and_parts (is_plain x) (list_all is_plain xs) g in
    and_from (is_plain x) (list_all is_plain (xs ++ ys)) both.0 (all_append xs ys both.1 h)

path_is : (node : ℕ) (end : List ℕ) → list_all is_plain end ≡ true → IsPath (node_path node end)
path_is node end h =
    let small : node % 8 < 2 ^ 64 = omega arith in
    record {
      word = plain_word (node_path node end) (empty_cons 47 (112 ∷ (decimal (node % 8) ++ end))) (all_append (decimal (node % 8)) end (number_plain (node % 8) small) h);
      undashed = refl;
    }

data_is : (j : ℕ) → j < 2 ^ 64 → IsData (decimal j)
data_is j h = decoded_back (decimal j) (utf8_bytes (decimal j) (number_word j h).text)

command_is : (j kind node : ℕ) → j < 2 ^ 64 → IsLone (generated_command j kind node)
command_is j kind node h =
    let own = path_is node [] refl in
    let d = data_is j h in
    choose (nat_le (kind % 8) 1) _ _ ((own, d), refl)
    (choose (kind % 8 == 2) _ _ ((path_is node (codes "/q") refl, d), refl)
    (choose (kind % 8 == 3) _ _ ((own, d, refl), refl)
    (choose (kind % 8 == 4) _ _ (own, refl)
    (choose (kind % 8 == 5) _ _ (record { word = plain_word (codes "/") refl refl; undashed = refl }, refl)
    (choose (kind % 8 == 6) _ _ ((own, refl), refl) ((path_is node (codes "/e") refl, d), refl))))))

push : (cs : List Command) (c : Command) → AllByRecursion IsCommand cs → IsLone c → AllByRecursion IsCommand (cs ++ c ∷ []) × (commands_weight (cs ++ c ∷ []) ≡ commands_weight cs + 1)
push [] c h g = ((g.0, tt), omega (arith, g.1))
push (d ∷ cs) c h g =
    let more = push cs c h.1 g in
    ((h.0, more.0), omega (arith, more.1))

commands_are : (number n : ℕ) → n < 2 ^ 64 → AllByRecursion IsCommand (generated_commands number n) × (commands_weight (generated_commands number n) ≡ n)
commands_are number zero h = (tt, refl)
commands_are number (suc n) h =
    let before = commands_are number n (omega arith) in
    let more = push (generated_commands number n) (generated_command (suc n) (draw number (suc (2 * n))) (draw number (suc (suc (2 * n))))) before.0 (command_is (suc n) (draw number (suc (2 * n))) (draw number (suc (suc (2 * n)))) h) in
    (more.0, omega (arith, more.1, before.1))

abbrev names : List Word
names = codes "c1" ∷ codes "c2" ∷ codes "c3" ∷ codes "c4" ∷ []

session_is : (k : ℕ) → k < 4 → IsSession names (1 + k)
session_is zero h = record { name = codes "c1"; word = plain_word (codes "c1") refl refl; named = refl; known = refl; back = refl }
session_is (suc zero) h = record { name = codes "c2"; word = plain_word (codes "c2") refl refl; named = refl; known = refl; back = refl }
session_is (suc (suc zero)) h = record { name = codes "c3"; word = plain_word (codes "c3") refl refl; named = refl; known = refl; back = refl }
session_is (suc (suc (suc zero))) h = record { name = codes "c4"; word = plain_word (codes "c4") refl refl; named = refl; known = refl; back = refl }
session_is (suc (suc (suc (suc k)))) h = absurd (omega arith)

unreserved : (k : ℕ) → k < 4 → (is (client names (1 + k)) (codes "leader") ≡ false) × (is (client names (1 + k)) (codes "watch") ≡ false)
unreserved zero h = (refl, refl)
unreserved (suc zero) h = (refl, refl)
unreserved (suc (suc zero)) h = (refl, refl)
unreserved (suc (suc (suc zero))) h = (refl, refl)
unreserved (suc (suc (suc (suc k)))) h = absurd (omega arith)

choose_turn : (b : Bool) (x y : Turn) → IsTurn names x → IsTurn names y → IsTurn names (cond b x y)
choose_turn true x y h i = h
choose_turn false x y h i = i

turn_is : (i kind about : ℕ) → 0 < i → i ≤ 10000 → IsTurn names (generated_turn i kind about)
turn_is i kind about some few =
    let s = session_is (about % 4) (omega arith) in
    let u = unreserved (about % 4) (omega arith) in
    choose_turn (nat_le (kind % 16) 3) _ _ s
    (choose_turn (nat_le (kind % 16) 6) _ _ (s, u.0, u.1)
    (choose_turn (nat_le (kind % 16) 8) _ _ tt
    (choose_turn (kind % 16 == 9) _ _ tt
    (choose_turn (nat_le (kind % 16) 13) _ _ (omega (arith, mod_below about i some)) (choose_turn (kind % 16 == 14) _ _ s (omega arith))))))

turns_push : (ts : List Turn) (t : Turn) → AllByRecursion (IsTurn names) ts → IsTurn names t → AllByRecursion (IsTurn names) (ts ++ t ∷ [])
turns_push [] t h g = (g, tt)
turns_push (u ∷ ts) t h g = (h.0, turns_push ts t h.1 g)

turns_are : (number n : ℕ) → n ≤ 10000 → AllByRecursion (IsTurn names) (generated_turns number n) × (length (generated_turns number n) ≡ n)
turns_are number zero h = (tt, refl)
turns_are number (suc n) h =
    let before = turns_are number n (omega arith) in
    let t = generated_turn (suc n) (draw number (suc (2 * n))) (draw number (suc (suc (2 * n)))) in (
      turns_push (generated_turns number n) t before.0 (turn_is (suc n) (draw number (suc (2 * n))) (draw number (suc (suc (2 * n)))) (omega arith) h),
      omega (arith, before.1, length-append (generated_turns number n) (t ∷ [])),
    )

pub generated_is_sound : (number size : ℕ) → size ≤ 500 → IsSound (generated number size)
generated_is_sound number size h =
    let one = commands_are number size (omega arith) in
    let two = commands_are (state_after number (2 * size)) size (omega arith) in
    let three = commands_are (state_after number (4 * size)) size (omega arith) in
    let four = commands_are (state_after number (6 * size)) size (omega arith) in
    let all = turns_are (state_after number (8 * size)) (20 * size) (omega arith) in
    record {
      lock = omega arith;
      beat = omega arith;
      clients = record {
        named = refl;
        apart = refl;
        few = omega arith;
        commands = (one.0, (two.0, (three.0, (four.0, tt))));
        light = omega (arith, one.1, two.1, three.1, four.1);
      };
      turns = all.0;
      short = omega (arith, all.1);
      idle = λ e. cc e;
    }
