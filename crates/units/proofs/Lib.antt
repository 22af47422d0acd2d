mod Lots
