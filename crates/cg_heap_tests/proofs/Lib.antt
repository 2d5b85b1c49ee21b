mod Scenes
mod PlaceLists
mod Appends
