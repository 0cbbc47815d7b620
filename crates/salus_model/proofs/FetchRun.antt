-- A run of two regions: two writes, a barrier, a reassignment that is refused and one that opens, and a read.
use Rattle.std.proofs.Common.{List, [], ◌∷◌, false}
use Rattle.std.specs.Prelude.{None}
use Rattle.salus_types.specs.declared.names.Sender.TheVariants as sender
use Rattle.schedule_text.specs.declared.schedule.Volume.{Volume}
use Rattle.schedule_text.specs.declared.schedule.Event.{Event}
use Rattle.schedule_text.specs.declared.schedule.Event.TheVariants as event
use Rattle.salus_model.specs.declared.trace.Request.TheVariants as request
use Rattle.salus_model.specs.declared.trace.Handed.TheVariants as handed
use Rattle.salus_model.specs.declared.trace.TraceStep.{TraceStep}
use Rattle.salus_model.specs.Following.{Posted}

abbrev pub volume_here : Volume
volume_here = record { geometry = record { regions_log = 1; height = 0; block = 1; replicas = 1 }; key = 107 ∷ [] }

abbrev pub events_here : List Event
events_here =
    event.Write (record { block = 0; bytes = 1 ∷ [] } ∷ record { block = 1; bytes = 2 ∷ [] } ∷ [])
    ∷ event.Barrier
    ∷ event.Write (record { block = 1; bytes = 3 ∷ [] } ∷ [])
    ∷ event.Reassign 2 0
    ∷ event.Settle 100
    ∷ event.Reassign 3 1
    ∷ event.Settle 100
    ∷ event.Read 1
    ∷ event.Settle 10 ∷ []

abbrev pub posts_here : List Posted
posts_here =
    record { from = sender.Client; to = sender.Node (record { region = 0; replica = 0 }); bytes = 4 ∷ 0 ∷ 0 ∷ 0 ∷ 0 ∷ 0 ∷ 0 ∷ 0 ∷ 1 ∷ 0 ∷ 0 ∷ 0 ∷ 1 ∷ 0 ∷ 0 ∷ 0 ∷ 1 ∷ 0 ∷ 0 ∷ 0 ∷ 0 ∷ 0 ∷ 0 ∷ 0 ∷ 0 ∷ 0 ∷ 0 ∷ 0 ∷ 0 ∷ [] }
    ∷ record { from = sender.Client; to = sender.Node (record { region = 1; replica = 0 }); bytes = 4 ∷ 0 ∷ 0 ∷ 0 ∷ 0 ∷ 0 ∷ 0 ∷ 0 ∷ 1 ∷ 0 ∷ 0 ∷ 0 ∷ 2 ∷ 0 ∷ 0 ∷ 0 ∷ 1 ∷ 0 ∷ 0 ∷ 0 ∷ 1 ∷ 0 ∷ 0 ∷ 0 ∷ 0 ∷ 0 ∷ 0 ∷ 0 ∷ 0 ∷ [] }
    ∷ record { from = sender.Node (record { region = 0; replica = 0 }); to = sender.Client; bytes = 5 ∷ 0 ∷ 0 ∷ 0 ∷ 0 ∷ 0 ∷ 0 ∷ 0 ∷ 1 ∷ 0 ∷ 0 ∷ 0 ∷ 1 ∷ 0 ∷ 0 ∷ 0 ∷ 1 ∷ 0 ∷ 0 ∷ 0 ∷ 0 ∷ 0 ∷ 0 ∷ 0 ∷ 0 ∷ 0 ∷ 0 ∷ 0 ∷ 0 ∷ 0 ∷ 1 ∷ 0 ∷ 0 ∷ [] }
    ∷ record { from = sender.Node (record { region = 1; replica = 0 }); to = sender.Client; bytes = 5 ∷ 0 ∷ 0 ∷ 0 ∷ 0 ∷ 0 ∷ 0 ∷ 0 ∷ 1 ∷ 0 ∷ 0 ∷ 0 ∷ 2 ∷ 0 ∷ 0 ∷ 0 ∷ 1 ∷ 0 ∷ 0 ∷ 0 ∷ 1 ∷ 0 ∷ 0 ∷ 0 ∷ 0 ∷ 0 ∷ 0 ∷ 0 ∷ 0 ∷ 0 ∷ 1 ∷ 0 ∷ 0 ∷ [] }
    ∷ record { from = sender.Client; to = sender.Node (record { region = 0; replica = 0 }); bytes = 1 ∷ 1 ∷ 0 ∷ 0 ∷ 0 ∷ 0 ∷ 0 ∷ 0 ∷ 0 ∷ 1 ∷ 0 ∷ 0 ∷ 0 ∷ 0 ∷ 0 ∷ 0 ∷ 0 ∷ 1 ∷ 0 ∷ 0 ∷ 0 ∷ 0 ∷ 0 ∷ 0 ∷ 0 ∷ 0 ∷ 0 ∷ 0 ∷ 0 ∷ 0 ∷ 2 ∷ 0 ∷ 0 ∷ 0 ∷ 0 ∷ 0 ∷ 0 ∷ 0 ∷ 1 ∷ 0 ∷ 0 ∷ 0 ∷ 0 ∷ 0 ∷ 0 ∷ 0 ∷ 1 ∷ 2 ∷ 0 ∷ 0 ∷ 0 ∷ 1 ∷ 180 ∷ 19 ∷ 244 ∷ 125 ∷ 19 ∷ 238 ∷ 47 ∷ 230 ∷ 200 ∷ 69 ∷ 178 ∷ 238 ∷ 20 ∷ 26 ∷ 248 ∷ 29 ∷ 232 ∷ 88 ∷ 223 ∷ 78 ∷ 197 ∷ 73 ∷ 165 ∷ 139 ∷ 121 ∷ 112 ∷ 187 ∷ 150 ∷ 100 ∷ 91 ∷ 200 ∷ 210 ∷ 13 ∷ 246 ∷ 29 ∷ 175 ∷ 207 ∷ 87 ∷ 138 ∷ 245 ∷ 58 ∷ 136 ∷ 60 ∷ 204 ∷ 88 ∷ 42 ∷ 236 ∷ 28 ∷ 66 ∷ 16 ∷ 78 ∷ 47 ∷ 252 ∷ 27 ∷ 128 ∷ 159 ∷ 163 ∷ 237 ∷ 83 ∷ 254 ∷ 140 ∷ 199 ∷ 159 ∷ 164 ∷ 1 ∷ 0 ∷ 0 ∷ 0 ∷ 1 ∷ 1 ∷ 47 ∷ 21 ∷ 98 ∷ 110 ∷ 224 ∷ 131 ∷ 95 ∷ 55 ∷ 158 ∷ 247 ∷ 29 ∷ 86 ∷ 161 ∷ 217 ∷ 74 ∷ 88 ∷ 85 ∷ 164 ∷ 190 ∷ 53 ∷ 51 ∷ 162 ∷ 125 ∷ 161 ∷ 18 ∷ 24 ∷ 94 ∷ 254 ∷ 85 ∷ 52 ∷ 100 ∷ 107 ∷ [] }
    ∷ record { from = sender.Client; to = sender.Node (record { region = 1; replica = 0 }); bytes = 1 ∷ 1 ∷ 0 ∷ 0 ∷ 0 ∷ 0 ∷ 0 ∷ 0 ∷ 0 ∷ 1 ∷ 0 ∷ 0 ∷ 0 ∷ 0 ∷ 0 ∷ 0 ∷ 0 ∷ 1 ∷ 0 ∷ 1 ∷ 0 ∷ 0 ∷ 0 ∷ 0 ∷ 0 ∷ 0 ∷ 0 ∷ 0 ∷ 0 ∷ 0 ∷ 2 ∷ 0 ∷ 0 ∷ 0 ∷ 0 ∷ 0 ∷ 0 ∷ 0 ∷ 1 ∷ 0 ∷ 0 ∷ 0 ∷ 0 ∷ 0 ∷ 0 ∷ 0 ∷ 1 ∷ 2 ∷ 0 ∷ 0 ∷ 0 ∷ 1 ∷ 252 ∷ 240 ∷ 166 ∷ 199 ∷ 0 ∷ 221 ∷ 19 ∷ 226 ∷ 116 ∷ 182 ∷ 251 ∷ 168 ∷ 222 ∷ 234 ∷ 141 ∷ 217 ∷ 178 ∷ 110 ∷ 78 ∷ 237 ∷ 222 ∷ 52 ∷ 149 ∷ 113 ∷ 124 ∷ 172 ∷ 132 ∷ 8 ∷ 201 ∷ 197 ∷ 23 ∷ 127 ∷ 13 ∷ 246 ∷ 29 ∷ 175 ∷ 207 ∷ 87 ∷ 138 ∷ 245 ∷ 58 ∷ 136 ∷ 60 ∷ 204 ∷ 88 ∷ 42 ∷ 236 ∷ 28 ∷ 66 ∷ 16 ∷ 78 ∷ 47 ∷ 252 ∷ 27 ∷ 128 ∷ 159 ∷ 163 ∷ 237 ∷ 83 ∷ 254 ∷ 140 ∷ 199 ∷ 159 ∷ 164 ∷ 1 ∷ 0 ∷ 0 ∷ 0 ∷ 1 ∷ 2 ∷ 37 ∷ 8 ∷ 146 ∷ 185 ∷ 38 ∷ 90 ∷ 31 ∷ 91 ∷ 246 ∷ 135 ∷ 70 ∷ 2 ∷ 33 ∷ 150 ∷ 1 ∷ 46 ∷ 119 ∷ 166 ∷ 26 ∷ 101 ∷ 149 ∷ 213 ∷ 52 ∷ 180 ∷ 199 ∷ 7 ∷ 14 ∷ 182 ∷ 115 ∷ 112 ∷ 143 ∷ 243 ∷ [] }
    ∷ record { from = sender.Client; to = sender.Node (record { region = 1; replica = 0 }); bytes = 4 ∷ 0 ∷ 0 ∷ 0 ∷ 0 ∷ 0 ∷ 0 ∷ 0 ∷ 1 ∷ 0 ∷ 0 ∷ 0 ∷ 1 ∷ 0 ∷ 0 ∷ 0 ∷ 3 ∷ 0 ∷ 0 ∷ 0 ∷ 1 ∷ 0 ∷ 0 ∷ 0 ∷ 0 ∷ 0 ∷ 0 ∷ 0 ∷ 1 ∷ [] }
    ∷ record { from = sender.Node (record { region = 0; replica = 0 }); to = sender.Node (record { region = 0; replica = 0 }); bytes = 2 ∷ 0 ∷ 0 ∷ 0 ∷ 0 ∷ 0 ∷ 0 ∷ 0 ∷ 1 ∷ 0 ∷ 0 ∷ 0 ∷ 0 ∷ 0 ∷ 0 ∷ 0 ∷ 1 ∷ 0 ∷ 0 ∷ 180 ∷ 19 ∷ 244 ∷ 125 ∷ 19 ∷ 238 ∷ 47 ∷ 230 ∷ 200 ∷ 69 ∷ 178 ∷ 238 ∷ 20 ∷ 26 ∷ 248 ∷ 29 ∷ 232 ∷ 88 ∷ 223 ∷ 78 ∷ 197 ∷ 73 ∷ 165 ∷ 139 ∷ 121 ∷ 112 ∷ 187 ∷ 150 ∷ 100 ∷ 91 ∷ 200 ∷ 210 ∷ [] }
    ∷ record { from = sender.Node (record { region = 1; replica = 0 }); to = sender.Node (record { region = 0; replica = 0 }); bytes = 2 ∷ 0 ∷ 0 ∷ 0 ∷ 0 ∷ 0 ∷ 0 ∷ 0 ∷ 1 ∷ 0 ∷ 0 ∷ 0 ∷ 0 ∷ 0 ∷ 0 ∷ 0 ∷ 1 ∷ 0 ∷ 1 ∷ 252 ∷ 240 ∷ 166 ∷ 199 ∷ 0 ∷ 221 ∷ 19 ∷ 226 ∷ 116 ∷ 182 ∷ 251 ∷ 168 ∷ 222 ∷ 234 ∷ 141 ∷ 217 ∷ 178 ∷ 110 ∷ 78 ∷ 237 ∷ 222 ∷ 52 ∷ 149 ∷ 113 ∷ 124 ∷ 172 ∷ 132 ∷ 8 ∷ 201 ∷ 197 ∷ 23 ∷ 127 ∷ [] }
    ∷ record { from = sender.Node (record { region = 1; replica = 0 }); to = sender.Client; bytes = 5 ∷ 0 ∷ 0 ∷ 0 ∷ 0 ∷ 0 ∷ 0 ∷ 0 ∷ 1 ∷ 0 ∷ 0 ∷ 0 ∷ 1 ∷ 0 ∷ 0 ∷ 0 ∷ 3 ∷ 0 ∷ 0 ∷ 0 ∷ 1 ∷ 0 ∷ 0 ∷ 0 ∷ 0 ∷ 0 ∷ 0 ∷ 0 ∷ 1 ∷ 0 ∷ 1 ∷ 2 ∷ 0 ∷ [] }
    ∷ record { from = sender.Node (record { region = 0; replica = 0 }); to = sender.Client; bytes = 3 ∷ 0 ∷ 0 ∷ 0 ∷ 0 ∷ 0 ∷ 0 ∷ 0 ∷ 1 ∷ 0 ∷ 0 ∷ 0 ∷ 0 ∷ 0 ∷ 0 ∷ 0 ∷ 1 ∷ [] }
    ∷ record { from = sender.Node (record { region = 0; replica = 0 }); to = sender.Node (record { region = 0; replica = 0 }); bytes = 3 ∷ 0 ∷ 0 ∷ 0 ∷ 0 ∷ 0 ∷ 0 ∷ 0 ∷ 1 ∷ 0 ∷ 0 ∷ 0 ∷ 0 ∷ 0 ∷ 0 ∷ 0 ∷ 1 ∷ [] }
    ∷ record { from = sender.Node (record { region = 0; replica = 0 }); to = sender.Node (record { region = 1; replica = 0 }); bytes = 3 ∷ 0 ∷ 0 ∷ 0 ∷ 0 ∷ 0 ∷ 0 ∷ 0 ∷ 1 ∷ 0 ∷ 0 ∷ 0 ∷ 0 ∷ 0 ∷ 0 ∷ 0 ∷ 1 ∷ [] }
    ∷ record { from = sender.Client; to = sender.Node (record { region = 1; replica = 0 }); bytes = 1 ∷ 1 ∷ 0 ∷ 0 ∷ 0 ∷ 0 ∷ 0 ∷ 0 ∷ 0 ∷ 1 ∷ 0 ∷ 0 ∷ 0 ∷ 0 ∷ 0 ∷ 0 ∷ 0 ∷ 2 ∷ 0 ∷ 1 ∷ 0 ∷ 0 ∷ 0 ∷ 0 ∷ 0 ∷ 0 ∷ 0 ∷ 1 ∷ 0 ∷ 0 ∷ 2 ∷ 0 ∷ 0 ∷ 0 ∷ 0 ∷ 0 ∷ 0 ∷ 0 ∷ 1 ∷ 0 ∷ 0 ∷ 0 ∷ 0 ∷ 0 ∷ 0 ∷ 0 ∷ 2 ∷ 1 ∷ 0 ∷ 1 ∷ 88 ∷ 60 ∷ 125 ∷ 251 ∷ 123 ∷ 48 ∷ 85 ∷ 217 ∷ 148 ∷ 101 ∷ 84 ∷ 64 ∷ 50 ∷ 165 ∷ 113 ∷ 225 ∷ 10 ∷ 19 ∷ 75 ∷ 27 ∷ 111 ∷ 118 ∷ 148 ∷ 34 ∷ 187 ∷ 183 ∷ 31 ∷ 215 ∷ 250 ∷ 22 ∷ 122 ∷ 93 ∷ 27 ∷ 146 ∷ 182 ∷ 139 ∷ 135 ∷ 150 ∷ 221 ∷ 203 ∷ 16 ∷ 32 ∷ 246 ∷ 21 ∷ 146 ∷ 58 ∷ 210 ∷ 40 ∷ 69 ∷ 151 ∷ 18 ∷ 13 ∷ 36 ∷ 157 ∷ 67 ∷ 30 ∷ 142 ∷ 139 ∷ 57 ∷ 25 ∷ 112 ∷ 243 ∷ 242 ∷ 208 ∷ 1 ∷ 0 ∷ 0 ∷ 0 ∷ 1 ∷ 3 ∷ 40 ∷ 56 ∷ 186 ∷ 15 ∷ 150 ∷ 4 ∷ 130 ∷ 204 ∷ 22 ∷ 172 ∷ 196 ∷ 235 ∷ 245 ∷ 29 ∷ 71 ∷ 87 ∷ 201 ∷ 81 ∷ 68 ∷ 193 ∷ 100 ∷ 157 ∷ 113 ∷ 185 ∷ 43 ∷ 192 ∷ 22 ∷ 10 ∷ 42 ∷ 4 ∷ 202 ∷ 11 ∷ [] }
    ∷ record { from = sender.Node (record { region = 1; replica = 0 }); to = sender.Node (record { region = 1; replica = 0 }); bytes = 2 ∷ 0 ∷ 0 ∷ 0 ∷ 0 ∷ 0 ∷ 0 ∷ 0 ∷ 1 ∷ 0 ∷ 0 ∷ 0 ∷ 0 ∷ 0 ∷ 0 ∷ 0 ∷ 2 ∷ 0 ∷ 1 ∷ 88 ∷ 60 ∷ 125 ∷ 251 ∷ 123 ∷ 48 ∷ 85 ∷ 217 ∷ 148 ∷ 101 ∷ 84 ∷ 64 ∷ 50 ∷ 165 ∷ 113 ∷ 225 ∷ 10 ∷ 19 ∷ 75 ∷ 27 ∷ 111 ∷ 118 ∷ 148 ∷ 34 ∷ 187 ∷ 183 ∷ 31 ∷ 215 ∷ 250 ∷ 22 ∷ 122 ∷ 93 ∷ [] }
    ∷ record { from = sender.Node (record { region = 1; replica = 0 }); to = sender.Client; bytes = 3 ∷ 0 ∷ 0 ∷ 0 ∷ 0 ∷ 0 ∷ 0 ∷ 0 ∷ 1 ∷ 0 ∷ 0 ∷ 0 ∷ 0 ∷ 0 ∷ 0 ∷ 0 ∷ 2 ∷ [] }
    ∷ record { from = sender.Node (record { region = 1; replica = 0 }); to = sender.Node (record { region = 0; replica = 0 }); bytes = 3 ∷ 0 ∷ 0 ∷ 0 ∷ 0 ∷ 0 ∷ 0 ∷ 0 ∷ 1 ∷ 0 ∷ 0 ∷ 0 ∷ 0 ∷ 0 ∷ 0 ∷ 0 ∷ 2 ∷ [] }
    ∷ record { from = sender.Node (record { region = 1; replica = 0 }); to = sender.Node (record { region = 1; replica = 0 }); bytes = 3 ∷ 0 ∷ 0 ∷ 0 ∷ 0 ∷ 0 ∷ 0 ∷ 0 ∷ 1 ∷ 0 ∷ 0 ∷ 0 ∷ 0 ∷ 0 ∷ 0 ∷ 0 ∷ 2 ∷ [] }
    ∷ record { from = sender.Client; to = sender.Node (record { region = 1; replica = 0 }); bytes = 12 ∷ 0 ∷ 0 ∷ 0 ∷ 0 ∷ 0 ∷ 0 ∷ 0 ∷ 1 ∷ 0 ∷ 1 ∷ [] }
    ∷ record { from = sender.Node (record { region = 1; replica = 0 }); to = sender.Client; bytes = 13 ∷ 0 ∷ 0 ∷ 0 ∷ 0 ∷ 0 ∷ 0 ∷ 0 ∷ 1 ∷ 0 ∷ 1 ∷ 0 ∷ 0 ∷ 0 ∷ 0 ∷ 0 ∷ 0 ∷ 0 ∷ 2 ∷ 0 ∷ 0 ∷ 0 ∷ 1 ∷ 0 ∷ 1 ∷ 3 ∷ [] }
    ∷ record { from = sender.Client; to = sender.Node (record { region = 0; replica = 0 }); bytes = 8 ∷ 1 ∷ 0 ∷ 0 ∷ 0 ∷ 0 ∷ 0 ∷ 0 ∷ 0 ∷ 3 ∷ 0 ∷ 0 ∷ 0 ∷ 0 ∷ 0 ∷ 0 ∷ 0 ∷ 2 ∷ 0 ∷ 0 ∷ 0 ∷ 0 ∷ 0 ∷ 0 ∷ 0 ∷ 0 ∷ 0 ∷ 0 ∷ 0 ∷ 0 ∷ 2 ∷ 0 ∷ 0 ∷ 0 ∷ 0 ∷ 0 ∷ 0 ∷ 0 ∷ 2 ∷ 0 ∷ 0 ∷ 0 ∷ 0 ∷ 0 ∷ 0 ∷ 0 ∷ 2 ∷ 2 ∷ 0 ∷ 0 ∷ 0 ∷ 1 ∷ 180 ∷ 19 ∷ 244 ∷ 125 ∷ 19 ∷ 238 ∷ 47 ∷ 230 ∷ 200 ∷ 69 ∷ 178 ∷ 238 ∷ 20 ∷ 26 ∷ 248 ∷ 29 ∷ 232 ∷ 88 ∷ 223 ∷ 78 ∷ 197 ∷ 73 ∷ 165 ∷ 139 ∷ 121 ∷ 112 ∷ 187 ∷ 150 ∷ 100 ∷ 91 ∷ 200 ∷ 210 ∷ 27 ∷ 146 ∷ 182 ∷ 139 ∷ 135 ∷ 150 ∷ 221 ∷ 203 ∷ 16 ∷ 32 ∷ 246 ∷ 21 ∷ 146 ∷ 58 ∷ 210 ∷ 40 ∷ 69 ∷ 151 ∷ 18 ∷ 13 ∷ 36 ∷ 157 ∷ 67 ∷ 30 ∷ 142 ∷ 139 ∷ 57 ∷ 25 ∷ 112 ∷ 243 ∷ 242 ∷ 208 ∷ 0 ∷ 47 ∷ 184 ∷ 1 ∷ 174 ∷ 149 ∷ 215 ∷ 156 ∷ 195 ∷ 71 ∷ 235 ∷ 172 ∷ 181 ∷ 228 ∷ 26 ∷ 124 ∷ 20 ∷ 208 ∷ 54 ∷ 210 ∷ 127 ∷ 49 ∷ 95 ∷ 101 ∷ 138 ∷ 141 ∷ 121 ∷ 200 ∷ 162 ∷ 13 ∷ 48 ∷ 177 ∷ 8 ∷ 0 ∷ 0 ∷ 0 ∷ 0 ∷ 0 ∷ 0 ∷ [] }
    ∷ record { from = sender.Client; to = sender.Node (record { region = 1; replica = 0 }); bytes = 8 ∷ 1 ∷ 0 ∷ 0 ∷ 0 ∷ 0 ∷ 0 ∷ 0 ∷ 0 ∷ 3 ∷ 0 ∷ 0 ∷ 0 ∷ 0 ∷ 0 ∷ 0 ∷ 0 ∷ 2 ∷ 0 ∷ 1 ∷ 0 ∷ 0 ∷ 0 ∷ 0 ∷ 0 ∷ 0 ∷ 0 ∷ 0 ∷ 0 ∷ 0 ∷ 2 ∷ 0 ∷ 0 ∷ 0 ∷ 0 ∷ 0 ∷ 0 ∷ 0 ∷ 2 ∷ 0 ∷ 0 ∷ 0 ∷ 0 ∷ 0 ∷ 0 ∷ 0 ∷ 2 ∷ 2 ∷ 0 ∷ 0 ∷ 0 ∷ 1 ∷ 88 ∷ 60 ∷ 125 ∷ 251 ∷ 123 ∷ 48 ∷ 85 ∷ 217 ∷ 148 ∷ 101 ∷ 84 ∷ 64 ∷ 50 ∷ 165 ∷ 113 ∷ 225 ∷ 10 ∷ 19 ∷ 75 ∷ 27 ∷ 111 ∷ 118 ∷ 148 ∷ 34 ∷ 187 ∷ 183 ∷ 31 ∷ 215 ∷ 250 ∷ 22 ∷ 122 ∷ 93 ∷ 27 ∷ 146 ∷ 182 ∷ 139 ∷ 135 ∷ 150 ∷ 221 ∷ 203 ∷ 16 ∷ 32 ∷ 246 ∷ 21 ∷ 146 ∷ 58 ∷ 210 ∷ 40 ∷ 69 ∷ 151 ∷ 18 ∷ 13 ∷ 36 ∷ 157 ∷ 67 ∷ 30 ∷ 142 ∷ 139 ∷ 57 ∷ 25 ∷ 112 ∷ 243 ∷ 242 ∷ 208 ∷ 0 ∷ 156 ∷ 152 ∷ 210 ∷ 180 ∷ 46 ∷ 143 ∷ 29 ∷ 198 ∷ 238 ∷ 223 ∷ 127 ∷ 124 ∷ 70 ∷ 29 ∷ 107 ∷ 56 ∷ 58 ∷ 30 ∷ 127 ∷ 209 ∷ 165 ∷ 229 ∷ 53 ∷ 69 ∷ 65 ∷ 9 ∷ 202 ∷ 155 ∷ 155 ∷ 59 ∷ 1 ∷ 60 ∷ 0 ∷ 0 ∷ 0 ∷ 1 ∷ 0 ∷ 1 ∷ 3 ∷ [] }
    ∷ record { from = sender.Node (record { region = 0; replica = 0 }); to = sender.Client; bytes = 9 ∷ 0 ∷ 0 ∷ 0 ∷ 0 ∷ 0 ∷ 0 ∷ 0 ∷ 3 ∷ [] }
    ∷ record { from = sender.Node (record { region = 1; replica = 0 }); to = sender.Client; bytes = 9 ∷ 0 ∷ 0 ∷ 0 ∷ 0 ∷ 0 ∷ 0 ∷ 0 ∷ 3 ∷ [] }
    ∷ record { from = sender.Client; to = sender.Node (record { region = 0; replica = 0 }); bytes = 10 ∷ 0 ∷ 0 ∷ 0 ∷ 0 ∷ 0 ∷ 0 ∷ 0 ∷ 3 ∷ [] }
    ∷ record { from = sender.Client; to = sender.Node (record { region = 1; replica = 0 }); bytes = 10 ∷ 0 ∷ 0 ∷ 0 ∷ 0 ∷ 0 ∷ 0 ∷ 0 ∷ 3 ∷ [] }
    ∷ record { from = sender.Node (record { region = 0; replica = 0 }); to = sender.Client; bytes = 11 ∷ 0 ∷ 0 ∷ 0 ∷ 0 ∷ 0 ∷ 0 ∷ 0 ∷ 3 ∷ [] }
    ∷ record { from = sender.Node (record { region = 1; replica = 0 }); to = sender.Client; bytes = 11 ∷ 0 ∷ 0 ∷ 0 ∷ 0 ∷ 0 ∷ 0 ∷ 0 ∷ 3 ∷ [] }
    ∷ record { from = sender.Client; to = sender.Node (record { region = 1; replica = 0 }); bytes = 4 ∷ 0 ∷ 0 ∷ 0 ∷ 0 ∷ 0 ∷ 0 ∷ 0 ∷ 3 ∷ 0 ∷ 0 ∷ 0 ∷ 0 ∷ 0 ∷ 0 ∷ 0 ∷ 8 ∷ 0 ∷ 0 ∷ 0 ∷ 1 ∷ 0 ∷ 0 ∷ 0 ∷ 0 ∷ 0 ∷ 0 ∷ 0 ∷ 2 ∷ [] }
    ∷ record { from = sender.Node (record { region = 1; replica = 0 }); to = sender.Client; bytes = 5 ∷ 0 ∷ 0 ∷ 0 ∷ 0 ∷ 0 ∷ 0 ∷ 0 ∷ 3 ∷ 0 ∷ 0 ∷ 0 ∷ 0 ∷ 0 ∷ 0 ∷ 0 ∷ 8 ∷ 0 ∷ 0 ∷ 0 ∷ 1 ∷ 0 ∷ 0 ∷ 0 ∷ 0 ∷ 0 ∷ 0 ∷ 0 ∷ 2 ∷ 0 ∷ 1 ∷ 3 ∷ 0 ∷ [] }
    ∷ []

abbrev pub trace_here : List TraceStep
trace_here =
    record { event = 1; party = sender.Client; handed = handed.Asked (request.Write (record { block = 0; bytes = 1 ∷ [] } ∷ record { block = 1; bytes = 2 ∷ [] } ∷ [])); sent = 2; failed = false; loaded = None }
    ∷ record { event = 2; party = sender.Client; handed = handed.Asked (request.Barrier); sent = 2; failed = false; loaded = None }
    ∷ record { event = 3; party = sender.Client; handed = handed.Asked (request.Write (record { block = 1; bytes = 3 ∷ [] } ∷ [])); sent = 2; failed = false; loaded = None }
    ∷ record { event = 4; party = sender.Client; handed = handed.Asked (request.Reassign 2 0); sent = 2; failed = false; loaded = None }
    ∷ record { event = 5; party = sender.Node (record { region = 0; replica = 0 }); handed = handed.Deliver 1; sent = 3; failed = false; loaded = None }
    ∷ record { event = 5; party = sender.Node (record { region = 1; replica = 0 }); handed = handed.Deliver 2; sent = 4; failed = false; loaded = None }
    ∷ record { event = 5; party = sender.Client; handed = handed.Deliver 3; sent = 4; failed = false; loaded = None }
    ∷ record { event = 5; party = sender.Client; handed = handed.Deliver 4; sent = 7; failed = false; loaded = None }
    ∷ record { event = 5; party = sender.Node (record { region = 0; replica = 0 }); handed = handed.Deliver 5; sent = 8; failed = false; loaded = None }
    ∷ record { event = 5; party = sender.Node (record { region = 1; replica = 0 }); handed = handed.Deliver 6; sent = 9; failed = false; loaded = None }
    ∷ record { event = 5; party = sender.Node (record { region = 1; replica = 0 }); handed = handed.Deliver 7; sent = 10; failed = false; loaded = None }
    ∷ record { event = 5; party = sender.Node (record { region = 0; replica = 0 }); handed = handed.Deliver 8; sent = 10; failed = false; loaded = None }
    ∷ record { event = 5; party = sender.Node (record { region = 0; replica = 0 }); handed = handed.Deliver 9; sent = 13; failed = false; loaded = None }
    ∷ record { event = 5; party = sender.Client; handed = handed.Deliver 10; sent = 14; failed = false; loaded = None }
    ∷ record { event = 5; party = sender.Client; handed = handed.Deliver 11; sent = 14; failed = false; loaded = None }
    ∷ record { event = 5; party = sender.Node (record { region = 0; replica = 0 }); handed = handed.Deliver 12; sent = 14; failed = false; loaded = None }
    ∷ record { event = 5; party = sender.Node (record { region = 1; replica = 0 }); handed = handed.Deliver 13; sent = 14; failed = false; loaded = None }
    ∷ record { event = 5; party = sender.Node (record { region = 1; replica = 0 }); handed = handed.Deliver 14; sent = 15; failed = false; loaded = None }
    ∷ record { event = 5; party = sender.Node (record { region = 1; replica = 0 }); handed = handed.Deliver 15; sent = 18; failed = false; loaded = None }
    ∷ record { event = 5; party = sender.Client; handed = handed.Deliver 16; sent = 18; failed = false; loaded = None }
    ∷ record { event = 5; party = sender.Node (record { region = 0; replica = 0 }); handed = handed.Deliver 17; sent = 18; failed = false; loaded = None }
    ∷ record { event = 5; party = sender.Node (record { region = 1; replica = 0 }); handed = handed.Deliver 18; sent = 18; failed = false; loaded = None }
    ∷ record { event = 6; party = sender.Client; handed = handed.Asked (request.Reassign 3 1); sent = 19; failed = false; loaded = None }
    ∷ record { event = 7; party = sender.Node (record { region = 1; replica = 0 }); handed = handed.Deliver 19; sent = 20; failed = false; loaded = None }
    ∷ record { event = 7; party = sender.Client; handed = handed.Deliver 20; sent = 22; failed = false; loaded = None }
    ∷ record { event = 7; party = sender.Node (record { region = 0; replica = 0 }); handed = handed.Deliver 21; sent = 23; failed = false; loaded = None }
    ∷ record { event = 7; party = sender.Node (record { region = 1; replica = 0 }); handed = handed.Deliver 22; sent = 24; failed = false; loaded = None }
    ∷ record { event = 7; party = sender.Client; handed = handed.Deliver 23; sent = 24; failed = false; loaded = None }
    ∷ record { event = 7; party = sender.Client; handed = handed.Deliver 24; sent = 26; failed = false; loaded = None }
    ∷ record { event = 7; party = sender.Node (record { region = 0; replica = 0 }); handed = handed.Deliver 25; sent = 27; failed = false; loaded = None }
    ∷ record { event = 7; party = sender.Node (record { region = 1; replica = 0 }); handed = handed.Deliver 26; sent = 28; failed = false; loaded = None }
    ∷ record { event = 7; party = sender.Client; handed = handed.Deliver 27; sent = 28; failed = false; loaded = None }
    ∷ record { event = 7; party = sender.Client; handed = handed.Deliver 28; sent = 28; failed = false; loaded = None }
    ∷ record { event = 8; party = sender.Client; handed = handed.Asked (request.Read 1); sent = 29; failed = false; loaded = None }
    ∷ record { event = 9; party = sender.Node (record { region = 1; replica = 0 }); handed = handed.Deliver 29; sent = 30; failed = false; loaded = None }
    ∷ record { event = 9; party = sender.Client; handed = handed.Deliver 30; sent = 30; failed = false; loaded = None }
    ∷ []
